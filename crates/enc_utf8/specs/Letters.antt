-- Letters: bytes whose characters follow one by one.
use Rattle.std.specs.Prelude.{ℕ, ◌+◌, ◌<◌, ◌≤◌, List, [], ◌∷◌}
use Rattle.std.specs.Char.{IsScalar}
use Rattle.enc_utf8.specs.declared.letters.Letters.{Letters}

-- These bytes are this character, which has one code unit in UTF-16.
pub record MeansUnit (Means : List ℕ → ℕ → Type 0) (bytes : List ℕ) (unit : ℕ) : Type 0 where
  pub scalar : IsScalar unit
  pub means : Means bytes unit

-- each byte from the first letter to the last is the character of one code unit that the shift says
abbrev pub AreLetters : (List ℕ → ℕ → Type 0) → Letters → Type 0
AreLetters Means letters = (b : ℕ) → letters.first ≤ b → b ≤ letters.last
    → MeansUnit Means (b ∷ []) (b + letters.shift) × (b + letters.shift < 0x1_0000)
