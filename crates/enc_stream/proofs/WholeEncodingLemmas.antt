-- The encoding of a whole input, by what calls have come to.
use Rattle.std.proofs.Common.{◌≡◌, ℕ, ◌≤◌, Bool, true, false, List, [], ◌∷◌, ◌++◌, Option, Some, None, length}
use Rattle.std.proofs.Common.{take, drop, refl, ap, sym, ◌∙◌, subst, inl, inr, arith, append_assoc}
use Rattle.std.specs.Prelude.{nat_eq}
use Rattle.std.specs.List.{starts_with}
use Rattle.std.proofs.lemmas.Bool.{false≢true}
use Rattle.std.proofs.lemmas.List.{append-nil, take-append-drop}
use Rattle.std.proofs.Math.ListN.{drop_of_length-le}
use Rattle.enc_utf8.proofs.LengthLemmas.{lengths}
use Rattle.enc_decoder.specs.Sequence.{Sequence, sequence_bytes}
use Rattle.enc_decoder.specs.Call.{reaches_end}
use Rattle.enc_decoder.specs.CallRecord.{Call}
use Rattle.enc_decoder.proofs.FirstSequenceLemmas.{true_or_false}
use Rattle.enc_decoder.proofs.SegmentationLemmas.{first_of}
use Rattle.enc_stream.specs.declared.encoding.Encoding.{Encoding}
use Rattle.enc_stream.specs.Bom.{Mark, find_mark, mark_bytes, marks_begun, encoding_of_mark_or}
use Rattle.enc_stream.specs.Decoding.{DecoderState, DecodesChunk, remaining_sequences, marks_after}
use Rattle.enc_stream.proofs.BegunMarkLemmas.{begun_find}
use Rattle.enc_stream.proofs.DecoderProgressLemmas.{ends_read}
use Rattle.enc_stream.proofs.EndOfInputLemmas.{none_left}
use Rattle.enc_stream.proofs.RemainingRuleLemmas.{marked_remaining}
use Rattle.enc_stream.proofs.FoundMarkLemmas.{start_fits, same_front}

-- The mark in front of bytes is that in front of the first ones, if it is no longer than those.
same_mark : (looked_for : List Mark) (x y : List ℕ)
    → length (mark_bytes (find_mark looked_for (x ++ y))) ≤ length x
    → find_mark looked_for (x ++ y) ≡ find_mark looked_for x
same_mark [] x y fits = refl
same_mark (m ∷ others) x y fits = elim (true_or_false (starts_with nat_eq (x ++ y) m.bytes)) [
  | inl starts ↦
      let same = same_front m.bytes x y (rw starts at fits) in rw (starts, sym same ∙ starts) refl
  | inr starts_not ↦ elim (true_or_false (starts_with nat_eq x m.bytes)) [
    | inl in_front ↦ absurd (false≢true (sym starts_not
        ∙ same_front m.bytes x y (start_fits m.bytes x in_front) ∙ in_front))
    | inr not_in_front ↦
        rw (starts_not, not_in_front) (same_mark others x y (rw starts_not at fits))
  ]
]

-- the encoding of the whole input, by the mark before the sequences to come
abbrev pub encoding_ahead : DecoderState → List ℕ → Encoding
encoding_ahead d y = encoding_of_mark_or (find_mark d.marks (d.pending ++ y)) d.encoding

-- once no mark may come, it is the decoder's
pub settled : (d : DecoderState) (y : List ℕ) → d.marks ≡ [] → encoding_ahead d y ≡ d.encoding
settled d y none = rw none refl

-- A call does not change it.
module _ {units_of : ℕ → List ℕ} {old new : DecoderState} (c : Call)
    (decodes : DecodesChunk units_of old new c) (y : List ℕ) (none : c.last ≡ true → y ≡ []) where
  abbrev x : List ℕ
  x = old.pending ++ take c.read c.src

  abbrev rest : List ℕ
  rest = drop c.read c.src ++ y

  abbrev all : List ℕ
  all = old.pending ++ (c.src ++ y)

  abbrev Stays : Type 0
  Stays = encoding_ahead new rest ≡ encoding_ahead old (c.src ++ y)

  in_parts : all ≡ x ++ rest
  in_parts =
      ap (λ z. old.pending ++ (z ++ y)) (sym (take-append-drop c.read c.src))
      ∙ ap (λ z. old.pending ++ z) (append_assoc (take c.read c.src) (drop c.read c.src) y)
      ∙ sym (append_assoc old.pending (take c.read c.src) rest)

  -- by the mark in front of the bytes read
  by_read : find_mark old.marks (x ++ rest) ≡ find_mark old.marks x → new.marks ≡ [] → Stays
  by_read same_in_front none_comes =
      settled new rest none_comes ∙ decodes.encoding ∙ rw (in_parts, same_in_front) refl

  -- if a sequence is done, the mark in front is among those bytes
  mark_is_read : (s : Sequence) (ss : List Sequence) → s ∷ ss ≡ decodes.call.done
      → (finished : Bool) → old.finished ≡ finished → (found : Option Mark)
      → find_mark old.marks all ≡ found → length (mark_bytes found) ≤ length x
  mark_is_read s ss is_done true is_finished found found_is =
      let first = sym (none_left old (c.src ++ y) is_finished) ∙ decodes.call.residual y none
      ∙ ap (λ ts. ts ++ remaining_sequences new rest) (sym is_done) in absurd (cc)
  mark_is_read s ss is_done false is_finished None found_is = omega arith
  mark_is_read s ss is_done false is_finished (Some m) found_is =
      let first = sym (marked_remaining old (c.src ++ y) m is_finished found_is)
      ∙ decodes.call.residual y none
      ∙ ap (λ ts. ts ++ remaining_sequences new rest) (sym is_done) in
      omega (
        arith,
        lengths,
        ap (λ (t : Sequence). length t.bytes) (first_of _ s _ _ first),
        ap (λ ts. length (sequence_bytes ts)) is_done,
        ap length decodes.accounted,
      )

  goes_to_end : reaches_end c.last c.result ≡ true → Stays
  goes_to_end reaches =
      let ends = ends_read c decodes (decodes.finished ∙ reaches) in
      let none_unread : rest ≡ [] = ap (λ z. drop c.read c.src ++ z) (none ends.0)
      ∙ append-nil (drop c.read c.src)
      ∙ drop_of_length-le c.src (let all_read = ends.1 in omega arith) in
      by_read (ap (find_mark old.marks) (ap (λ z. x ++ z) none_unread ∙ append-nil x))
      (decodes.marks ∙ ap (λ end. marks_after old.marks end decodes.call.done new.pending) reaches)

  -- if nothing is done, the bytes pending are those read, and no mark is
  goes_in_front : decodes.call.done ≡ [] → new.marks ≡ marks_begun old.marks new.pending
      → (found : Option Mark) → find_mark old.marks x ≡ found → Stays
  goes_in_front nothing_done begun (Some m) found_is =
      let first = rw (found_is, nothing_done) at decodes.mark in
      absurd (let no = first.1 in cc)
  goes_in_front nothing_done begun None found_is =
      let now_pending : x ≡ new.pending =
      decodes.accounted ∙ ap (λ ss. sequence_bytes ss ++ new.pending) nothing_done in
      rw (
        decodes.encoding,
        found_is,
        begun,
        ← now_pending,
        begun_find old.marks x rest found_is,
        in_parts,
      ) refl

  by_done : (done : List Sequence) → done ≡ decodes.call.done
      → reaches_end c.last c.result ≡ false → Stays
  by_done [] done_is goes_on =
      goes_in_front (sym done_is) (decodes.marks ∙ rw (goes_on, ← done_is) refl)
      (find_mark old.marks x) refl
  by_done (s ∷ ss) done_is goes_on =
      by_read (same_mark old.marks x rest (subst (λ z. length (mark_bytes (find_mark old.marks z))
      ≤ length x) in_parts (mark_is_read s ss done_is old.finished refl (find_mark old.marks all)
      refl))) (decodes.marks ∙ rw (goes_on, ← done_is) refl)

  pub still_ahead : encoding_ahead new rest ≡ encoding_ahead old (c.src ++ y)
  still_ahead = elim (true_or_false (reaches_end c.last c.result)) [
    | inl reaches ↦ goes_to_end reaches
    | inr goes_on ↦ by_done decodes.call.done refl goes_on
  ]
