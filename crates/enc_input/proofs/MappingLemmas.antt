-- Runs of characters whose bytes are written in turn.
use Rattle.std.proofs.Common.{◌≡◌, ℕ, suc, ◌+◌, ◌<◌, ◌≤◌, List, [], ◌∷◌}
use Rattle.std.proofs.Common.{◌++◌, zero, length, take, drop, get_or, refl, ap, ◌∙◌}
use Rattle.std.proofs.Common.{sym, arith, append_assoc, append-nil, take-append-drop}
use Rattle.std.proofs.Math.ListN.{set}
use Rattle.std.specs.Char.{encode_utf8}
use Rattle.std.specs.Prelude.{All}
use Rattle.enc_input.specs.Mappings.{WritesMapped, AreWrittenAsUtf8}
use Rattle.enc_utf8.specs.Pieces.{AreWrittenAsThemselves, piece_bytes}
use Rattle.enc_utf8.specs.Text.{AreScalars, units_of_text}
use Rattle.enc_utf8.proofs.PieceListLemmas.{piece_bytes-append, piece_chars-append, EachMeansChar-append}
use Rattle.enc_utf8.proofs.PieceListLemmas.{AreScalars-all, alone, units_alone, pieces_of, bytes_of, chars_of}
use Rattle.enc_utf8.proofs.PieceListLemmas.{they_mean}
use Rattle.enc_utf8.proofs.PutLemmas.{Put, put_length, put_more, put_one}

module _ {Means : List ℕ → ℕ → Type 0} where
  pub maps_none : (src before : List ℕ) (at : ℕ) → at ≤ length before
      → WritesMapped Means src src before before at 0
  maps_none src before at room = record {
    pieces = [];
    reads = refl;
    mean = tt;
    count = refl;
    fits = omega arith;
    onto = sym (take-append-drop at before)
        ∙ ap (λ n. take at before ++ drop n before) (omega arith);
  }

  put_of : {src rest before after : List ℕ} {at n : ℕ}
      → (writes : WritesMapped Means src rest before after at n)
      → Put at n before (piece_bytes writes.pieces) after
  put_of writes = record { count = writes.count; fits = writes.fits; onto = writes.onto }

  -- a run after another
  pub maps_both : {src between rest before mid after : List ℕ} {at n k : ℕ}
      → WritesMapped Means src between before mid at n
      → WritesMapped Means between rest mid after (at + n) k
      → WritesMapped Means src rest before after at (n + k)
  maps_both {rest = rest} {before = before} {at = at} {n = n} {k = k} first then_more =
      let both = piece_bytes-append first.pieces then_more.pieces in
      let put = put_more (put_of first) (put_of then_more) in
      record {
        pieces = first.pieces ++ then_more.pieces;
        reads = first.reads ∙ rw (
          then_more.reads,
          piece_chars-append first.pieces then_more.pieces,
          append_assoc,
        ) refl;
        mean = EachMeansChar-append Means first.pieces then_more.pieces first.mean then_more.mean;
        count = put.count ∙ ap length (sym both);
        fits = put.fits;
        onto = rw both put.onto;
      }

  -- the slice keeps its length
  pub same_length : {src rest before after : List ℕ} {at n : ℕ}
      → WritesMapped Means src rest before after at n → length after ≡ length before
  same_length writes = put_length (put_of writes)

  -- a text in a coding
  pub maps_by : (code : ℕ → List ℕ) {src rest bytes before after : List ℕ} {at n : ℕ}
      (text : List ℕ) → All (λ c. Means (code c) c) text → src ≡ text ++ rest
      → bytes ≡ units_of_text code text → Put at n before bytes after
      → WritesMapped Means src rest before after at n
  maps_by code {rest = rest} {before = before} {at = at} {n = n} text mean reads written put =
      let bytes_are = written ∙ sym (bytes_of code text) in
      record {
        pieces = pieces_of code text;
        reads = reads ∙ ap (λ z. z ++ rest) (sym (chars_of code text));
        mean = they_mean code Means text mean;
        count = put.count ∙ ap length bytes_are;
        fits = put.fits;
        onto = rw (← bytes_are) put.onto;
      }

  -- one character
  pub maps_one : {src rest bytes before after : List ℕ} {at n c : ℕ} → Means bytes c
      → src ≡ c ∷ rest → Put at n before bytes after → WritesMapped Means src rest before after at n
  maps_one {bytes = bytes} {c = c} means reads put =
      maps_by (λ _. bytes) (c ∷ []) only reads (sym (append-nil bytes)) put
    where
      only : All (λ c. Means bytes c) (c ∷ [])
      only zero d inside = means
      only (suc k) d inside = absurd (omega arith)

  -- ASCII, where it is written as itself
  pub maps_ascii : {src rest bytes before after : List ℕ} {at n : ℕ}
      → AreWrittenAsThemselves Means bytes → src ≡ bytes ++ rest → Put at n before bytes after
      → WritesMapped Means src rest before after at n
  maps_ascii {bytes = bytes} own reads put =
      maps_by alone bytes (λ k d inside. (own k d inside).1) reads (sym (units_alone bytes)) put

  -- every character, where each is written as its UTF-8
  pub maps_utf8 : {src rest bytes before after : List ℕ} {at n : ℕ} → AreWrittenAsUtf8 Means
      → (text : List ℕ) → AreScalars text → src ≡ text ++ rest
      → bytes ≡ units_of_text encode_utf8 text → Put at n before bytes after
      → WritesMapped Means src rest before after at n
  maps_utf8 utf8 text scalars =
      maps_by encode_utf8 text (λ k d inside. utf8 _ (AreScalars-all text scalars k d inside))

-- the first bytes of a list, one or two

pub put_first : (at : ℕ) (dst bytes : List ℕ) (n : ℕ) → n ≡ 1 → 1 ≤ length bytes → at < length dst
    → set dst at (get_or bytes 0 0) ≡ take at dst ++ (take n bytes ++ drop (at + 1) dst)
put_first at dst [] n is some inside = absurd (omega arith)
put_first at dst (b ∷ bytes) n is some inside =
    rw is (put_one at b dst inside).onto

pub put_first_two : (at : ℕ) (dst bytes : List ℕ) (n : ℕ) → n ≡ 2 → 2 ≤ length bytes
    → at + 1 < length dst
    → set (set dst at (get_or bytes 0 0)) (at + 1) (get_or bytes 1 0)
    ≡ take at dst ++ (take n bytes ++ drop (at + 2) dst)
put_first_two at dst [] n is two inside = absurd (omega arith)
put_first_two at dst (a ∷ []) n is two inside = absurd (omega arith)
put_first_two at dst (a ∷ b ∷ bytes) n is two inside =
    let first = put_one at a dst (omega arith) in
    let second = put_one (at + 1) b (set dst at a) (omega (arith, put_length first)) in
    rw is (put_more first second).onto
