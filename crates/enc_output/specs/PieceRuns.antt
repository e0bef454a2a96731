-- Runs of pieces: read from the front of an input, and put out.
use Rattle.std.specs.Prelude.{◌≡◌, ℕ, ◌≤◌, List, [], length, take}
use Rattle.enc_output.specs.Output.{Output, with_appended}
use Rattle.enc_utf8.specs.Text.{AreScalars, units_of_text}
use Rattle.enc_utf8.specs.Pieces.{Piece, piece_bytes, piece_chars, EachMeansChar}

-- The first n bytes are pieces, and their characters are this text.
pub record ReadsPieces (Means : List ℕ → ℕ → Type 0) (src : List ℕ) (n : ℕ)
    (text : List ℕ) : Type 0 where
  pub pieces : List Piece
  pub within : n ≤ length src
  pub bytes : piece_bytes pieces ≡ take n src
  pub chars : piece_chars pieces ≡ text
  pub mean : EachMeansChar Means pieces
  pub none : n ≡ 0 → pieces ≡ []

-- The first n bytes are pieces. Their characters fit and are written.
pub record PutsPieces (units_of : ℕ → List ℕ) (Means : List ℕ → ℕ → Type 0) (before after : Output)
    (src : List ℕ) (n : ℕ) : Type 0 where
  pub text : List ℕ
  pub scalars : AreScalars text
  pub reads : ReadsPieces Means src n text
  pub fits : length (units_of_text units_of text) ≤ before.room
  pub written : after ≡ with_appended before (units_of_text units_of text)
