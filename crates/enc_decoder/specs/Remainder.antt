-- The remaining sequences of a decoder, by the bytes that follow.
use Rattle.std.specs.Prelude.{◌≡◌, ℕ, ◌<◌, Bool, true, false, List, [], ◌∷◌, ◌++◌}
use Rattle.enc_decoder.specs.Sequence.{Sequence}

-- A decoder between two calls: the pending bytes (read, and their sequence not yet put out), the
-- designated character set, and the sequences still to come if exactly these bytes follow.
pub record Remainder : Type 0 where
  pub pending : List ℕ
  pub set : ℕ
  pub sequences : List ℕ → List Sequence

-- each number is a byte
abbrev pub AreBytes : List ℕ → Type 0
AreBytes [] = Unit {0}
AreBytes (b ∷ z) = (b < 256) × AreBytes z

-- a list begins with these sequences
abbrev pub AreFirstSequences : List Sequence → List Sequence → Type 0
AreFirstSequences ss all = (rest : List Sequence) × (all ≡ ss ++ rest)

-- The bytes x determine that these sequences come first, whatever bytes follow.
abbrev pub Determines : (List ℕ → List Sequence) → List ℕ → List Sequence → Type 0
Determines remaining x ss = (z : List ℕ) → AreBytes z → AreFirstSequences ss (remaining (x ++ z))

-- the same if the end of the input may be known
abbrev pub AreDetermined : Bool → (List ℕ → List Sequence) → List ℕ → List Sequence → Type 0
AreDetermined true remaining x ss = AreFirstSequences ss (remaining x)
AreDetermined false remaining x ss = Determines remaining x ss

-- With no byte more, no sequence is determined.
abbrev pub IsUndetermined : (List ℕ → List Sequence) → Type 0
IsUndetermined remaining = (s : Sequence) → Determines remaining [] (s ∷ []) → ⊥
