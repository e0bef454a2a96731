-- Sinks of bytes, by the bytes taken. They are modelled as std models the bytes that a writer
-- holds: where a sink models none, nothing is promised of them.
use Rattle.std.specs.Prelude.{◌≡◌, ℕ, List, ◌++◌, Option}
use Rattle.std.specs.Io.KnownBytes.{Appends}

-- These bytes more are taken.
abbrev pub AppendsContents : Option (List ℕ) → Option (List ℕ) → List ℕ → Type 0
AppendsContents old new bytes = Appends old new bytes

-- A prefix of these bytes more is taken.
pub record AppendsPrefix (old new : Option (List ℕ)) (bytes : List ℕ) : Type 0 where
  pub wrote : List ℕ
  pub unwritten : List ℕ
  pub prefix : bytes ≡ wrote ++ unwritten
  pub taken : AppendsContents old new wrote

-- One list is a prefix of another.
abbrev pub BeginsWithBytes : List ℕ → List ℕ → Type 0
BeginsWithBytes all front = (others : List ℕ) × (all ≡ front ++ others)
