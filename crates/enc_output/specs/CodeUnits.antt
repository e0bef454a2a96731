-- Code units of UTF-16 as pairs of bytes.
use Rattle.std.specs.Prelude.{ℕ, ◌+◌, ◌*◌, Bool, List, [], ◌∷◌, if◌then◌else◌}
use Rattle.std.specs.Char.{IsScalar}

-- the code unit of two bytes
abbrev pub unit_of : Bool → ℕ → ℕ → ℕ
unit_of big_endian first second = if big_endian then first * 256 + second else second * 256 + first

-- the code units of these bytes, two bytes each
abbrev pub units_of_bytes : Bool → List ℕ → List ℕ
units_of_bytes big_endian [] = []
units_of_bytes big_endian (first ∷ []) = []
units_of_bytes big_endian (first ∷ second ∷ bytes) =
    unit_of big_endian first second ∷ units_of_bytes big_endian bytes

-- Two bytes whose code unit is no surrogate are the character with that number.
abbrev pub AreCodeUnits : (List ℕ → ℕ → Type 0) → Bool → Type 0
AreCodeUnits Means big_endian = (first second : ℕ) → IsScalar (unit_of big_endian first second)
    → Means (first ∷ second ∷ []) (unit_of big_endian first second)
