-- Lists of pieces: those of two lists joined, and those of a text in a coding.
use Rattle.std.proofs.Common.{◌≡◌, ℕ, zero, suc, List, [], ◌∷◌, ◌++◌, refl, ap, ◌∙◌, sym, arith, append_assoc}
use Rattle.std.proofs.lemmas.Bool.{and_parts}
use Rattle.std.specs.Prelude.{All}
use Rattle.std.proofs.lemmas.List.Elements.{All-tail}
use Rattle.std.specs.Char.{IsScalar}
use Rattle.enc_utf8.specs.Text.{AreScalars, units_of_text}
use Rattle.enc_utf8.specs.Pieces.{Piece, piece_bytes, piece_chars, EachMeansChar}

pub piece_bytes-append : (ps qs : List Piece)
    → piece_bytes (ps ++ qs) ≡ piece_bytes ps ++ piece_bytes qs
piece_bytes-append [] qs = refl
piece_bytes-append (p ∷ ps) qs =
    ap (λ z. p.bytes ++ z) (piece_bytes-append ps qs)
    ∙ sym (append_assoc p.bytes (piece_bytes ps) (piece_bytes qs))

pub piece_chars-append : (ps qs : List Piece)
    → piece_chars (ps ++ qs) ≡ piece_chars ps ++ piece_chars qs
piece_chars-append [] qs = refl
piece_chars-append (p ∷ ps) qs = ap (λ z. p.char ∷ z) (piece_chars-append ps qs)

pub EachMeansChar-append : (Means : List ℕ → ℕ → Type 0) (ps qs : List Piece)
    → EachMeansChar Means ps → EachMeansChar Means qs → EachMeansChar Means (ps ++ qs)
EachMeansChar-append Means [] qs first_mean others_mean = others_mean
EachMeansChar-append Means (p ∷ ps) qs first_mean others_mean =
    (first_mean.0, EachMeansChar-append Means ps qs first_mean.1 others_mean)

-- each scalar value of a text
pub AreScalars-all : (text : List ℕ) → AreScalars text → All IsScalar text
AreScalars-all [] scalars k d inside = absurd (omega arith)
AreScalars-all (c ∷ text) scalars zero d inside = (and_parts _ _ scalars).0
AreScalars-all (c ∷ text) scalars (suc k) d inside =
    AreScalars-all text (and_parts _ _ scalars).1 k d (omega arith)

-- where each character is its own code unit, the text is
pub own_text : (units_of : ℕ → List ℕ) (text : List ℕ) → All (λ c. units_of c ≡ c ∷ []) text
    → units_of_text units_of text ≡ text
own_text units_of [] own = refl
own_text units_of (c ∷ text) own =
    rw (
      own 0 0 (omega arith),
      own_text units_of text
          (All-tail (λ c. units_of c ≡ c ∷ []) c text own),
    ) refl

-- a byte that is its own character
abbrev pub alone : ℕ → List ℕ
alone b = b ∷ []

pub units_alone : (bytes : List ℕ) → units_of_text alone bytes ≡ bytes
units_alone bytes = own_text alone bytes (λ k d inside. refl)

module _ (code : ℕ → List ℕ) where
  abbrev pub pieces_of : List ℕ → List Piece
  pieces_of [] = []
  pieces_of (c ∷ text) = record { bytes = code c; char = c } ∷ pieces_of text

  pub bytes_of : (text : List ℕ) → piece_bytes (pieces_of text) ≡ units_of_text code text
  bytes_of [] = refl
  bytes_of (c ∷ text) = ap (λ z. code c ++ z) (bytes_of text)

  pub chars_of : (text : List ℕ) → piece_chars (pieces_of text) ≡ text
  chars_of [] = refl
  chars_of (c ∷ text) = ap (λ z. c ∷ z) (chars_of text)

  pub they_mean : (Means : List ℕ → ℕ → Type 0) (text : List ℕ) → All (λ c. Means (code c) c) text
      → EachMeansChar Means (pieces_of text)
  they_mean Means [] mean = tt
  they_mean Means (c ∷ text) mean =
      (mean 0 0 (omega arith), they_mean Means text (λ k d inside. mean (suc k) d (omega arith)))
