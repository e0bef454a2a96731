-- The characters of well-formed UTF-8.
use Rattle.std.proofs.Common.{◌≡◌, ℕ, ◌<◌, ◌≤◌, List, [], ◌∷◌, length, take, refl, ap, ◌∙◌, sym, arith}
use Rattle.std.proofs.Math.Utf8.{low_scalar}
use Rattle.std.proofs.lemmas.Str.{length-encode, len_utf8_bounds, encode_ascii}
use Rattle.std.specs.Char.{encode_utf8}
use Rattle.std.specs.Str.{encode_utf8_all}
use Rattle.enc_utf8.proofs.LengthLemmas.{lengths}
use Rattle.enc_output.specs.Output.{Output, with_appended}
use Rattle.enc_utf8.specs.Validity.{IsWellFormedUtf8}
use Rattle.enc_utf8.specs.Pieces.{IsUtf8Char}
use Rattle.enc_output.specs.PieceRuns.{ReadsPieces, PutsPieces}
use Rattle.enc_utf8.proofs.PieceListLemmas.{AreScalars-all, pieces_of, bytes_of, chars_of, they_mean}
use Rattle.enc_utf8.proofs.UnitsLemmas.{their_units}

none_of : (cs : List ℕ) → length (encode_utf8_all cs) ≡ 0 → pieces_of encode_utf8 cs ≡ []
none_of [] e = refl
none_of (c ∷ cs) e =
    absurd (omega (arith, lengths, length-encode c, len_utf8_bounds c))

-- an ASCII byte is its own character
pub ascii_char : (b : ℕ) → b < 0x80 → IsUtf8Char (b ∷ []) b
ascii_char b h = (low_scalar b (omega arith), sym (encode_ascii b h))

-- the characters of well-formed bytes are read
pub reads_utf8 : (src : List ℕ) (n : ℕ) → n ≤ length src → (utf8 : IsWellFormedUtf8 (take n src))
    → ReadsPieces IsUtf8Char src n utf8.0
reads_utf8 src n l utf8 = record {
  pieces = pieces_of encode_utf8 utf8.0;
  within = l;
  bytes = bytes_of encode_utf8 utf8.0 ∙ their_units utf8.0 ∙ utf8.1.1;
  chars = chars_of encode_utf8 utf8.0;
  mean = they_mean encode_utf8 IsUtf8Char utf8.0
      (λ k d inside. (AreScalars-all utf8.0 utf8.1.0 k d inside, refl));
  none = λ z. none_of utf8.0 (omega (arith, lengths, ap length utf8.1.1));
}

-- and well-formed bytes are put out as they are
pub puts_utf8 : (before after : Output) (src : List ℕ) (n : ℕ) → n ≤ length src → n ≤ before.room
    → IsWellFormedUtf8 (take n src) → after ≡ with_appended before (take n src)
    → PutsPieces encode_utf8 IsUtf8Char before after src n
puts_utf8 before after src n l f utf8 e =
    let units = their_units utf8.0 ∙ utf8.1.1 in
    record {
      text = utf8.0;
      scalars = utf8.1.0;
      reads = reads_utf8 src n l utf8;
      fits = omega (arith, lengths, ap length units);
      written = e ∙ ap (with_appended before) (sym units);
    }
