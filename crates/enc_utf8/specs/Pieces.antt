-- Pieces of an input: a character with the bytes that it is made of.
use Rattle.std.specs.Prelude.{◌≡◌, ℕ, List, [], ◌∷◌, ◌++◌, ◌<◌, All}
use Rattle.std.specs.Char.{IsScalar, encode_utf8}

pub record Piece : Type 0 where
  pub bytes : List ℕ
  pub char : ℕ

-- the bytes of all pieces, joined
abbrev pub piece_bytes : List Piece → List ℕ
piece_bytes [] = []
piece_bytes (p ∷ ps) = p.bytes ++ piece_bytes ps

-- the characters of all pieces
abbrev pub piece_chars : List Piece → List ℕ
piece_chars [] = []
piece_chars (p ∷ ps) = p.char ∷ piece_chars ps

-- the bytes of each piece mean its character
abbrev pub EachMeansChar : (List ℕ → ℕ → Type 0) → List Piece → Type 0
EachMeansChar Means [] = Unit {0}
EachMeansChar Means (p ∷ ps) = Means p.bytes p.char × EachMeansChar Means ps

-- These bytes are this character in UTF-8 (Unicode Standard 3.9, D92).
abbrev pub IsUtf8Char : List ℕ → ℕ → Type 0
IsUtf8Char bytes c = IsScalar c × (bytes ≡ encode_utf8 c)

-- an ASCII character whose byte is its number
abbrev pub IsWrittenAsItself : (List ℕ → ℕ → Type 0) → ℕ → Type 0
IsWrittenAsItself Means b = (b < 0x80) × Means (b ∷ []) b

-- each is such a character
abbrev pub AreWrittenAsThemselves : (List ℕ → ℕ → Type 0) → List ℕ → Type 0
AreWrittenAsThemselves Means = All (IsWrittenAsItself Means)

-- all of ASCII is written as itself
abbrev pub KeepsAscii : (List ℕ → ℕ → Type 0) → Type 0
KeepsAscii Means = (b : ℕ) → b < 0x80 → Means (b ∷ []) b
