-- Pieces that a codec takes at once.
use Rattle.enc_decoder.proofs.RuleLemmas.{has_bytes}
use Rattle.std.proofs.Common.{◌≡◌, ℕ, suc, ◌+◌, ◌<◌, false, List, [], ◌∷◌, ◌++◌, length, take, drop, refl, ap, ◌∙◌, sym}
use Rattle.std.proofs.Common.{subst, arith, append_assoc, drop-cons, get_or}
use Rattle.enc_output.specs.Output.{Output, with_appended}
use Rattle.enc_utf8.specs.Text.{AreScalars, units_of_text}
use Rattle.enc_utf8.specs.Pieces.{Piece, piece_chars, EachMeansChar, piece_bytes}
use Rattle.enc_output.specs.PieceRuns.{PutsPieces}
use Rattle.enc_utf8.specs.Pieces as piece
use Rattle.enc_decoder.specs.declared.byte_codec.Kind.TheVariants.{Valid}
use Rattle.enc_decoder.specs.Sequence.{Sequence, sequence_bytes, sequence_text, any_malformed, set_after}
use Rattle.enc_decoder.specs.Segmentation.{Rule, sequences_of}
use Rattle.enc_decoder.specs.CodecState.{CodecState}
use Rattle.enc_decoder.specs.Taking.{TakesSequences, TakesRun, IsWholeChar, IsReplacedChar}

module _ (rule : Rule) (set : ℕ) where
  -- each piece is a character, or malformed
  abbrev AreReplaced : List Piece → Type 0
  AreReplaced = EachMeansChar (IsReplacedChar rule set)

  -- the sequences of pieces, each of its kind
  abbrev whole : (ps : List Piece) → AreReplaced ps → List Sequence
  whole [] mean = []
  whole (p ∷ ps) mean =
      record { bytes = p.bytes; text = p.char ∷ []; kind = mean.0.0; set = set } ∷ whole ps mean.1

  whole_bytes : (ps : List Piece) (mean : AreReplaced ps)
      → sequence_bytes (whole ps mean) ≡ piece.piece_bytes ps
  whole_bytes [] mean = refl
  whole_bytes (p ∷ ps) mean = ap (λ x. p.bytes ++ x) (whole_bytes ps mean.1)

  whole_text : (ps : List Piece) (mean : AreReplaced ps)
      → sequence_text (whole ps mean) ≡ piece_chars ps
  whole_text [] mean = refl
  whole_text (p ∷ ps) mean = ap (λ x. p.char ∷ x) (whole_text ps mean.1)

  whole_set : (ps : List Piece) (mean : AreReplaced ps) → set_after set (whole ps mean) ≡ set
  whole_set [] mean = refl
  whole_set (p ∷ ps) mean = whole_set ps mean.1

  whole_first : (ps : List Piece) (mean : AreReplaced ps) (y : List ℕ)
      → sequences_of rule set (piece.piece_bytes ps ++ y)
      ≡ whole ps mean ++ sequences_of rule set y
  whole_first [] mean y = refl
  whole_first (p ∷ ps) mean y =
      rw (append_assoc, mean.0.1 (piece.piece_bytes ps ++ y), whole_first ps mean.1 y) refl

  whole_none : (ps : List Piece) (mean : AreReplaced ps) → ps ≡ [] → whole ps mean ≡ []
  whole_none [] mean e = refl
  whole_none (p ∷ ps) mean e = cc

  -- characters are none of them malformed
  abbrev as_replaced : (ps : List Piece) → EachMeansChar (IsWholeChar rule set) ps → AreReplaced ps
  as_replaced [] mean = tt
  as_replaced (p ∷ ps) mean = ((Valid, mean.0), as_replaced ps mean.1)

  whole_valid : (ps : List Piece) (mean : EachMeansChar (IsWholeChar rule set) ps)
      → any_malformed (whole ps (as_replaced ps mean)) ≡ false
  whole_valid [] mean = refl
  whole_valid (p ∷ ps) mean = whole_valid ps mean.1

abbrev takes_each : {units_of : ℕ → List ℕ} {Means : List ℕ → ℕ → Type 0} (v : CodecState)
    {src : List ℕ} {n : ℕ} {before after : Output}
    → v.pending ≡ [] → (puts : PutsPieces units_of Means before after src n)
    → EachMeansChar (IsReplacedChar v.rule v.set) puts.reads.pieces
    → TakesSequences units_of v v src n before after
takes_each {units_of} v {src} {n} {before} {after} none_pending puts mean =
    let reads = puts.reads in
    let ss = whole v.rule v.set reads.pieces mean in
    let units : units_of_text units_of (sequence_text ss) ≡ units_of_text units_of puts.text =
    ap (units_of_text units_of) (whole_text v.rule v.set reads.pieces mean ∙ reads.chars) in
    record {
      taken = ss;
      within = reads.within;
      bytes = whole_bytes v.rule v.set reads.pieces mean ∙ reads.bytes;
      first = λ y _.
          rw (none_pending, ← reads.bytes, whole_first v.rule v.set reads.pieces mean y) refl;
      next_state = ap (λ s. record v { set = s })
          (sym (whole_set v.rule v.set reads.pieces mean));
      scalars = subst AreScalars
          (sym (whole_text v.rule v.set reads.pieces mean ∙ reads.chars)) puts.scalars;
      fits = omega (arith, puts.fits, ap length units);
      written = puts.written ∙ ap (with_appended before) (sym units);
      none_pending = λ _. none_pending;
      none_taken = λ z. whole_none v.rule v.set reads.pieces mean (reads.none z);
    }

-- Pieces that are characters or malformed are sequences.
pub takes_replaced : {units_of : ℕ → List ℕ} (v : CodecState) {src : List ℕ} {n : ℕ}
    {before after : Output}
    → v.pending ≡ [] → PutsPieces units_of (IsReplacedChar v.rule v.set) before after src n
    → TakesSequences units_of v v src n before after
takes_replaced v none_pending puts = takes_each v none_pending puts puts.reads.mean

pub takes_pieces : {C : Type 0} (units_of : ℕ → List ℕ) (state : C → CodecState) (c : C)
    (src : List ℕ) (n : ℕ) (before after : Output)
    → (state c).pending ≡ []
    → PutsPieces units_of (IsWholeChar (state c).rule (state c).set) before after src n
    → TakesRun units_of state c c src n before after
takes_pieces units_of state c src n before after none_pending puts =
    let value = state c in
    let pieces = puts.reads.pieces in
    record {
      run = takes_each value none_pending puts
          (as_replaced value.rule value.set pieces puts.reads.mean);
      none_malformed = whole_valid value.rule value.set pieces puts.reads.mean;
    }

pub same_piece : (rule : Rule) (set : ℕ) (bytes bytes' : List ℕ) (c : ℕ) → bytes ≡ bytes'
    → IsWholeChar rule set bytes' c → IsWholeChar rule set bytes c
same_piece rule set bytes bytes' c e p = subst (λ z. IsWholeChar rule set z c) (sym e) p

-- the bytes that a piece of one byte has, or of more

next_of : (src : List ℕ) (n : ℕ) {at next : ℕ} → next ≡ suc at → at < length src
    → take (suc n) (drop at src) ≡ get_or src at 0 ∷ take n (drop next src)
next_of src n {at} is_next has_byte =
    ap (take (suc n)) (drop-cons src at 0 has_byte)
    ∙ ap (λ k. get_or src at 0 ∷ take n (drop k src)) (sym is_next)

pub one_of : (src : List ℕ) (at : ℕ) → at < length src → take 1 (drop at src) ≡ get_or src at 0 ∷ []
one_of src at has_byte = next_of src 0 refl has_byte

pub two_of : (src : List ℕ) (at : ℕ) → at + 1 < length src
    → take 2 (drop at src) ≡ get_or src at 0 ∷ get_or src (at + 1) 0 ∷ []
two_of src at has_bytes =
    let next = one_of src (at + 1) has_bytes in
    next_of src 1 (omega arith) (omega arith) ∙ ap (λ x. get_or src at 0 ∷ x) next

pub three_of : (src : List ℕ) (at : ℕ) → at + 2 < length src
    → take 3 (drop at src) ≡ get_or src at 0 ∷ get_or src (at + 1) 0 ∷ get_or src (at + 2) 0 ∷ []
three_of src at has_bytes =
    let next : at + 1 + 1 ≡ at + 2 = omega arith in
    next_of src 2 (omega arith) (omega arith)
    ∙ ap (λ x. get_or src at 0 ∷ x) (rw next at (two_of src (at + 1) (omega arith)))

pub four_of : (src : List ℕ) (at : ℕ) → at + 3 < length src
    → take 4 (drop at src) ≡ get_or src at 0 ∷ get_or src (at + 1) 0 ∷ get_or src (at + 2) 0
    ∷ get_or src (at + 3) 0 ∷ []
four_of src at has_bytes =
    let next : at + 1 + 1 ≡ at + 2 = omega arith in
    let last : at + 1 + 2 ≡ at + 3 = omega arith in
    next_of src 3 (omega arith) (omega arith)
    ∙ ap (λ x. get_or src at 0 ∷ x) (rw (next, last) at (three_of src (at + 1) (omega arith)))
