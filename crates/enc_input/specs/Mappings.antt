-- The bytes of characters, looked up and written in runs.
use Rattle.std.specs.Prelude.{◌≡◌, ℕ, ◌+◌, ◌≤◌, List, ◌∷◌, ◌++◌, length, take, drop, chars, IsUtf8}
use Rattle.std.specs.Char.{IsScalar, encode_utf8}
use Rattle.enc_utf8.specs.Pieces.{Piece, piece_bytes, piece_chars, EachMeansChar, AreWrittenAsThemselves}

-- every character is written as its UTF-8
abbrev pub AreWrittenAsUtf8 : (List ℕ → ℕ → Type 0) → Type 0
AreWrittenAsUtf8 Means = (c : ℕ) → IsScalar c → Means (encode_utf8 c) c

-- The first n code units are ASCII that is written as itself, and they are written to a slice, from
-- `at` on. All other bytes of the slice are unchanged.
pub record WritesThemselves (Means : List ℕ → ℕ → Type 0) (src before after : List ℕ)
    (at n : ℕ) : Type 0 where
  pub within : n ≤ length src
  pub ascii : AreWrittenAsThemselves Means (take n src)
  pub fits : at + n ≤ length before
  pub onto : after ≡ take at before ++ (take n src ++ drop (at + n) before)

-- The first characters of an input are read, and their bytes are written one after another to a
-- slice, from `at` on. All other bytes of the slice are unchanged.
pub record WritesMapped (Means : List ℕ → ℕ → Type 0) (src rest before after : List ℕ)
    (at n : ℕ) : Type 0 where
  pub pieces : List Piece
  pub reads : src ≡ piece_chars pieces ++ rest
  pub mean : EachMeansChar Means pieces
  pub count : n ≡ length (piece_bytes pieces)
  pub fits : at + n ≤ length before
  pub onto : after ≡ take at before ++ (piece_bytes pieces ++ drop (at + n) before)

-- The first n code units are characters, whose m bytes are written to a slice, from `at` on. `Rest`
-- says what code units are left.
pub record WritesFront (chars_in : List ℕ → List ℕ) (Rest : List ℕ → Type 0)
    (Means : List ℕ → ℕ → Type 0) (text before after : List ℕ) (at n m : ℕ) : Type 0 where
  pub within : n ≤ length text
  pub rest : Rest (drop n text)
  pub writes : WritesMapped Means (chars_in text) (chars_in (drop n text)) before after at m

-- any code units of UTF-16: a surrogate without its partner is read as U+FFFD
abbrev pub AreAnyUnits : List ℕ → Type 0
AreAnyUnits units = Unit {0}

-- UTF-8 begins with the character c, of n bytes
pub record IsFirstUtf8Char (bytes : List ℕ) (c n : ℕ) : Type 0 where
  pub within : n ≤ length bytes
  pub utf8 : IsUtf8 (drop n bytes)
  pub chars : chars bytes ≡ c ∷ chars (drop n bytes)
