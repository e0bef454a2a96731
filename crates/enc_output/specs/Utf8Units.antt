-- The code units of UTF-16 that the bytes of well-formed UTF-8 give (Unicode Standard 3.9, tables
-- 3-5 and 3-6). The first byte of a character gives its code unit, or the first of a surrogate
-- pair. The third of four bytes gives the second of the pair.
use Rattle.std.specs.Prelude.{ℕ, zero, suc, ◌+◌, ◌-◌, ◌*◌, ◌/◌, ◌%◌, Bool, ◌||◌, ◌==◌, List, [], ◌∷◌, ◌++◌, map}
use Rattle.std.specs.Prelude.{slice_index, nat_le, nat_lt, if◌then◌else◌}

-- whether a byte gives a code unit, by the byte two before it
abbrev pub gives_unit : ℕ → ℕ → Bool
gives_unit byte_two_before byte =
    (nat_lt byte 0x80 || nat_le 0xC0 byte) || nat_le 0xF0 byte_two_before

-- the code unit of a byte, by the two bytes after it
abbrev pub code_unit_of_byte : ℕ → ℕ → ℕ → ℕ
code_unit_of_byte first second third =
    if nat_lt first 0x80 then first
    else if nat_lt first 0xC0 then (first * 0x40 + second - 0x80) % 0x400 + 0xDC00
    else if nat_lt first 0xE0 then (first * 0x40 + second + 0xCF80) % 0x1_0000
    else if nat_lt first 0xF0 then (first * 0x1000 + second * 0x40 + third + 0xDF80) % 0x1_0000
    else (first * 0x100 + second * 4 + third / 0x10 + 0xE5B8) % 0x1_0000

-- the byte two before this offset, or 0
abbrev pub byte_two_before : List ℕ → ℕ → ℕ
byte_two_before src zero = 0
byte_two_before src (suc zero) = 0
byte_two_before src (suc (suc at)) = slice_index src at

-- the code unit that the byte at `at` gives, if it gives one
abbrev pub unit_at : List ℕ → ℕ → List ℕ
unit_at src at =
    if gives_unit (byte_two_before src at) (slice_index src at)
    then code_unit_of_byte (slice_index src at) (slice_index src (suc at))
    (slice_index src (suc (suc at))) ∷ []
    else []

-- the code units of n bytes from `at` on
abbrev pub units_from : List ℕ → ℕ → ℕ → List ℕ
units_from src at zero = []
units_from src at (suc n) = unit_at src at ++ units_from src (suc at) n

-- the offsets from `from` on whose bits are set, the first in the lowest bit
abbrev pub marked_places : ℕ → ℕ → ℕ → List ℕ
marked_places marks from zero = []
marked_places marks from (suc n) =
    (if marks % 2 == 1 then from ∷ [] else []) ++ marked_places (marks / 2) (suc from) n

-- those of eight code units whose bits are set
abbrev pub marked_code_units : ℕ → List ℕ → List ℕ
marked_code_units marks units = map (λ k. slice_index units k) (marked_places marks 0 8)
