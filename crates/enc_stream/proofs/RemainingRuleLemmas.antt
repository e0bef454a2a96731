-- The sequences that a decoder has still to put out: a byte order mark, if one comes, and those of
-- one encoding's rule.
use Rattle.std.proofs.Common.{◌≡◌, ℕ, ◌<◌, Bool, true, false, if◌then◌else◌, List, [], ◌∷◌, ◌++◌, length, refl}
use Rattle.std.proofs.Common.{drop, arith, subst, append_assoc, Option, Some, None}
use Rattle.std.proofs.lemmas.List.{length-append}
use Rattle.enc_stream.specs.declared.encoding.Encoding.{Encoding}
use Rattle.enc_utf8.specs.Text.{units_of_text}
use Rattle.enc_utf8.proofs.LengthLemmas.{lengths}
use Rattle.enc_decoder.specs.Sequence.{Sequence, sequence_bytes, sequence_text}
use Rattle.enc_decoder.specs.Segmentation.{Rule, sequences_of}
use Rattle.enc_decoder.specs.RuleLaws.{IsSmallText}
use Rattle.enc_decoder.proofs.RuleLemmas.{has_bytes, small_text, none_small}
use Rattle.enc_decoder.proofs.SegmentationLemmas.{first_of, rest_of}
use Rattle.enc_stream.specs.Encodings.{rule_of}
use Rattle.enc_stream.specs.Bom.{Mark, find_mark, mark_sequence, sequences_by_mark}
use Rattle.enc_stream.specs.Decoding.{DecoderState, remaining_sequences}
use Rattle.enc_stream.proofs.EncodingLemmas.{small_texts}

-- They are those of the decoder's encoding, if no byte order mark is found, and otherwise those of
-- the mark's.
module _ (d : DecoderState) (y : List ℕ) where
  pub unmarked_remaining : d.finished ≡ false → find_mark d.marks (d.pending ++ y) ≡ None
      → remaining_sequences d y ≡ sequences_of (rule_of d.encoding) d.set (d.pending ++ y)
  unmarked_remaining going none = rw (going, none) refl

  pub marked_remaining : (m : Mark) → d.finished ≡ false
      → find_mark d.marks (d.pending ++ y) ≡ Some m
      → remaining_sequences d y ≡ mark_sequence m
      ∷ sequences_of (rule_of m.encoding) 0 (drop (length m.bytes) (d.pending ++ y))
  marked_remaining m going found = rw (going, found) refl

-- What holds of the first sequences of every rule, and with a byte order mark before them, holds of
-- the first that remain.
module _ (Has : List Sequence → Type 0) (none : Has [])
    (of_rule : (e : Encoding) (set : ℕ) (bytes : List ℕ) (ss rest : List Sequence)
    → sequences_of (rule_of e) set bytes ≡ ss ++ rest → Has ss)
    (of_mark : (m : Mark) (ss : List Sequence) → Has ss → Has (mark_sequence m ∷ ss)) where
  by_found : (found : Option Mark) (e : Encoding) (set : ℕ) (bytes : List ℕ)
      (ss rest : List Sequence) → sequences_by_mark found e set bytes ≡ ss ++ rest → Has ss
  by_found None e set bytes ss rest cut = of_rule e set bytes ss rest cut
  by_found (Some m) e set bytes [] rest cut = none
  by_found (Some m) e set bytes (s ∷ ss) rest cut =
      subst (λ t. Has (t ∷ ss)) (first_of (mark_sequence m) s _ _ cut)
      (of_mark m ss (of_rule m.encoding 0 _ ss rest (rest_of (mark_sequence m) s _ _ cut)))

  by_end : (finished : Bool) (all ss rest : List Sequence)
      → ((ss rest : List Sequence) → all ≡ ss ++ rest → Has ss)
      → (if finished then [] else all) ≡ ss ++ rest → Has ss
  by_end false all ss rest has cut = has ss rest cut
  by_end true all [] rest has cut = none
  by_end true all (s ∷ ss) rest has cut = absurd (cc)

  pub remaining_have : (d : DecoderState) (y : List ℕ) (ss rest : List Sequence)
      → remaining_sequences d y ≡ ss ++ rest → Has ss
  remaining_have d y ss rest cut =
      by_end d.finished (sequences_by_mark (find_mark d.marks (d.pending ++ y)) d.encoding d.set
      (d.pending ++ y)) ss rest
      (by_found (find_mark d.marks (d.pending ++ y)) d.encoding d.set (d.pending ++ y)) cut

-- sequences without a byte are none
pub none_without_bytes : (rule : Rule) (set : ℕ) (bytes : List ℕ) (ss rest : List Sequence)
    → sequences_of rule set bytes ≡ ss ++ rest → length (sequence_bytes ss) ≡ 0 → ss ≡ []
none_without_bytes rule set bytes [] rest cut no_byte = refl
none_without_bytes rule set bytes (s ∷ ss) rest cut no_byte =
    absurd (omega (arith, lengths, no_byte, has_bytes rule set bytes [] s (ss ++ rest) cut))

-- the last of some first sequences has a small text
abbrev LastIsSmall : List Sequence → Type 0
LastIsSmall ss = (done : List Sequence) (s : Sequence) → ss ≡ done ++ s ∷ [] → IsSmallText s.text

small_after_mark : (m : Mark) (ss : List Sequence) → LastIsSmall ss
    → LastIsSmall (mark_sequence m ∷ ss)
small_after_mark m ss small [] s is_last =
    subst (λ (t : Sequence). IsSmallText t.text) (first_of (mark_sequence m) s _ _ is_last)
    none_small
small_after_mark m ss small (t ∷ done) s is_last =
    small done s (rest_of (mark_sequence m) t _ _ is_last)

pub small_remaining : (d : DecoderState) (y : List ℕ) (done : List Sequence) (s : Sequence)
    (rest : List Sequence) → remaining_sequences d y ≡ (done ++ s ∷ []) ++ rest
    → IsSmallText s.text
small_remaining d y done s rest cut =
    remaining_have LastIsSmall (λ none next is_last. absurd (no_last none next is_last))
    (λ e set bytes ss following whole none next is_last. small_text (rule_of e) (small_texts e) set
    bytes none next following (rw (is_last, append_assoc) at whole))
    small_after_mark d y (done ++ s ∷ []) rest cut done s refl
  where
    no_last : (none : List Sequence) (next : Sequence) → [] ≡ none ++ next ∷ [] → ⊥
    no_last [] next is_last = cc
    no_last (t ∷ none) next is_last = cc

-- sequences that have a text have bytes
module _ (units_of : ℕ → List ℕ) where
  abbrev BytesIfText : List Sequence → Type 0
  BytesIfText ss = 0 < length (units_of_text units_of (sequence_text ss))
      → 0 < length (sequence_bytes ss)

  bytes_of_rule : (e : Encoding) (set : ℕ) (bytes : List ℕ) (ss rest : List Sequence)
      → sequences_of (rule_of e) set bytes ≡ ss ++ rest → BytesIfText ss
  bytes_of_rule e set bytes [] rest cut some_units = absurd (omega (arith, some_units))
  bytes_of_rule e set bytes (s ∷ ss) rest cut some_units =
      omega (arith, lengths, has_bytes (rule_of e) set bytes [] s (ss ++ rest) cut)

  pub some_bytes : (d : DecoderState) (y : List ℕ) (ss rest : List Sequence)
      → remaining_sequences d y ≡ ss ++ rest → BytesIfText ss
  some_bytes =
      remaining_have BytesIfText (λ some_units. absurd (omega (arith, some_units))) bytes_of_rule
      (λ m ss has some_units. omega (
        arith,
        has some_units,
        length-append m.bytes
            (sequence_bytes ss),
      ))
