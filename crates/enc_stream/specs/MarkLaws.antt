-- Prefixes of byte order marks, and the bytes after one.
use Rattle.std.specs.Prelude.{◌≡◌, ℕ, ◌⊎◌, List, [], ◌∷◌, ◌++◌, length, drop, Option, Some, None}
use Rattle.enc_stream.specs.Bom.{Mark}

-- x is a proper prefix of these bytes
abbrev pub IsProperPrefix : List ℕ → List ℕ → Type 0
IsProperPrefix x bytes = (b : ℕ) × (rest : List ℕ) × (bytes ≡ x ++ b ∷ rest)

-- x is a proper prefix of one of these byte order marks
abbrev pub MayBeginMark : List Mark → List ℕ → Type 0
MayBeginMark [] x = ⊥
MayBeginMark (m ∷ others) x = IsProperPrefix x m.bytes ⊎ MayBeginMark others x

-- the bytes after the byte order mark, if there is one
abbrev pub bytes_after_mark : Option Mark → List ℕ → List ℕ
bytes_after_mark None x = x
bytes_after_mark (Some m) x = drop (length m.bytes) x
