-- Characters of one byte or two, as words and as code units.
use Rattle.std.specs.Prelude.{◌≡◌, ℕ, ◌/◌, ◌≤◌, Bool, List, [], ◌∷◌, take, if◌then◌else◌}
use Rattle.std.specs.Char.{IsScalar, encode_utf8}
use Rattle.std.specs.Int.{w32, to_le_bytes}

-- the first byte, or both
abbrev pub byte_or_pair : Bool → ℕ → ℕ → List ℕ
byte_or_pair is_pair first second = if is_pair then first ∷ second ∷ [] else first ∷ []

-- These bytes are a character. The word has its UTF-8: the bytes, the first lowest, and their
-- number in the highest byte.
pub record MeansWord (Means : List ℕ → ℕ → Type 0) (bytes : List ℕ) (word : ℕ) : Type 0 where
  pub char : ℕ
  pub scalar : IsScalar char
  pub means : Means bytes char
  pub bound : word / 0x100_0000 ≤ 4
  pub utf8 : take (word / 0x100_0000) (to_le_bytes w32 word) ≡ encode_utf8 char
