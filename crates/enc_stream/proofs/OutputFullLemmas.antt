-- What a full output says of a decoder: with room for a small text something is done, and a call
-- that does nothing leaves all as it was.
use Rattle.std.proofs.Common.{◌≡◌, ℕ, ◌<◌, ◌≤◌, Bool, true, false, List, [], ◌∷◌, ◌++◌, length}
use Rattle.std.proofs.Common.{refl, ap, ◌∙◌, sym, arith, subst, append_assoc, Option, Some, None}
use Rattle.std.proofs.lemmas.List.{append-nil}
use Rattle.std.specs.Char.{encode_utf8}
use Rattle.std.specs.Char.Escape.{encode_utf16}
use Rattle.enc_stream.specs.declared.encoding.Encoding.{Encoding}
use Rattle.enc_output.specs.declared.decoder_result.DecoderResult.{DecoderResult}
use Rattle.enc_output.specs.declared.decoder_result.DecoderResult.TheVariants.{InputEmpty, OutputFull, Malformed}
use Rattle.enc_utf8.specs.Text.{DetermineTexts, units_of_text}
use Rattle.enc_utf8.proofs.LengthLemmas.{lengths}
use Rattle.enc_decoder.specs.Sequence.{Sequence, sequence_bytes, sequence_text, set_after}
use Rattle.enc_decoder.specs.Remainder.{AreFirstSequences, AreDetermined}
use Rattle.enc_decoder.specs.CallRecord.{Call, CallInto}
use Rattle.enc_decoder.specs.RuleLaws.{HasTexts}
use Rattle.enc_decoder.proofs.NeedLemmas.{meets_need}
use Rattle.enc_decoder.proofs.SegmentationLemmas.{first_of}
use Rattle.enc_decoder.proofs.SequenceLemmas.{sequence_bytes-one}
use Rattle.enc_decoder.proofs.RuleLemmas.{none_without_text}
use Rattle.enc_stream.specs.Encodings.{rule_of}
use Rattle.enc_stream.specs.Bom.{Mark, find_mark}
use Rattle.enc_stream.specs.Decoding.{DecoderState, has_finished, remaining_sequences, DecodesChunk, DecodesInto}
use Rattle.enc_stream.specs.Decoding.{TakesSmallTexts, AnswersDecode, AnswersDecodeInto, IsUnchangedButSkips}
use Rattle.enc_stream.specs.Decoding.{LeavesFewerBytes}
use Rattle.enc_stream.proofs.BegunMarkLemmas.{begun_are_longer}
use Rattle.enc_stream.proofs.DecoderCallLemmas.{fewer_left}
use Rattle.enc_stream.proofs.FoundMarkLemmas.{EachMark, found_has}
use Rattle.enc_stream.proofs.LifeCycleLemmas.{HoldsMarks}
use Rattle.enc_stream.proofs.RemainingRuleLemmas.{small_remaining, some_bytes, unmarked_remaining}
use Rattle.enc_stream.proofs.RemainingRuleLemmas.{marked_remaining}

begins_at : (last : Bool) (remaining : List ℕ → List Sequence) (x : List ℕ) (ss : List Sequence)
    → AreDetermined last remaining x ss → (z : List ℕ) × (AreFirstSequences ss (remaining z))
begins_at true remaining x ss determined = (x, determined)
begins_at false remaining x ss determined = (x ++ [], determined [] tt)

-- A call with room for a small text that stops for want of room.
module _ {units_of : ℕ → List ℕ} {least : ℕ} (takes : TakesSmallTexts units_of least)
    {old new : DecoderState} (c : Call) (roomy : least ≤ c.room) where
  -- the sequences done have a text, and bytes
  some_done : (decodes : DecodesChunk units_of old new (record c { result = OutputFull }))
      → (0 < length (units_of_text units_of (sequence_text decodes.call.done)))
      × (0 < length (sequence_bytes decodes.call.done))
  some_done decodes =
      let done : List Sequence = decodes.call.done in
      let stops = decodes.call.stops in
      let first = begins_at c.last (remaining_sequences old) c.src (done ++ stops.next ∷ [])
      stops.determined in
      let some_units : 0 < length (units_of_text units_of (sequence_text done)) =
      omega (
        arith,
        roomy,
        stops.full,
        takes stops.next.text (small_remaining old first.0 done stops.next first.1.0 first.1.1),
      ) in (
        some_units,
        some_bytes units_of old first.0 done (stops.next ∷ first.1.0)
            (first.1.1 ∙ append_assoc done (stops.next ∷ []) first.1.0) some_units,
      )

  pub some_written : DecodesChunk units_of old new (record c { result = OutputFull })
      → 0 < length c.wrote
  some_written decodes =
      rw (decodes.call.text, ← decodes.call.stops.only_put) (some_done decodes).0

  -- and a sequence that is reported has bytes, too
  pub less_left : (result : DecoderResult)
      → DecodesChunk units_of old new (record c { result = result }) → (result ≡ InputEmpty → ⊥)
      → LeavesFewerBytes old new c.src c.read
  less_left InputEmpty decodes goes_on = absurd (goes_on refl)
  less_left OutputFull decodes goes_on =
      fewer_left (record c { result = OutputFull }) decodes (some_done decodes).1
  less_left (Malformed l a) decodes goes_on =
      let stops = decodes.call.stops in
      fewer_left (record c { result = Malformed l a }) decodes (omega (
        arith,
        stops.len,
        stops.not_empty,
        ap (λ ss. length (sequence_bytes ss)) stops.then_next,
        ap length (sequence_bytes-one decodes.call.put stops.next),
        lengths,
      ))

same_state : (a b : DecoderState) → a.encoding ≡ b.encoding → a.marks ≡ b.marks → a.set ≡ b.set
    → a.pending ≡ b.pending → a.held ≡ b.held → a.finished ≡ b.finished → a ≡ b
same_state a b encoding marks set pending held finished =
    let made : Encoding → List Mark → ℕ → List ℕ → Bool → Bool → DecoderState = λ u v w x y z.
    record { encoding = u; marks = v; set = w; pending = x; held = y; finished = z } in
    let same : made a.encoding a.marks a.set a.pending a.held a.finished
    ≡ made b.encoding b.marks b.set b.pending b.held b.finished = cc in same

-- A call that stops for want of room, and has read nothing and written nothing.
module _ {units_of : ℕ → List ℕ} (determine : DetermineTexts units_of) {old new : DecoderState}
    (holds : HoldsMarks old) (going : has_finished old ≡ false) (c : Call)
    (decodes : DecodesChunk units_of old new
    (record c { result = OutputFull; read = 0; wrote = [] }))
  where
    abbrev done : List Sequence
    done = decodes.call.done

    nothing_more : old.pending ++ [] ≡ old.pending
    nothing_more = append-nil old.pending

    was_pending : old.pending ≡ sequence_bytes done ++ new.pending
    was_pending = sym nothing_more ∙ decodes.accounted

    same_encoding : new.encoding ≡ old.encoding
    same_encoding = decodes.encoding ∙ rw (nothing_more, holds.unmarked) refl

    same_if_none : done ≡ [] → new ≡ old
    same_if_none none =
        let same_pending : old.pending ≡ new.pending =
        was_pending ∙ ap (λ ss. sequence_bytes ss ++ new.pending) none in
        same_state new old same_encoding
        (decodes.marks ∙ rw (none, ← same_pending) holds.begun)
        (decodes.call.set ∙ ap (set_after old.set) none) (sym same_pending)
        (decodes.held ∙ rw (nothing_more, ← same_pending) holds.held)
        (decodes.finished ∙ sym going)

    -- nothing that has a text is done
    no_text : sequence_text done ≡ []
    no_text = ap sequence_text decodes.call.stops.only_put
        ∙ determine (sequence_text decodes.call.put) [] decodes.call.scalars refl
        (sym decodes.call.text)

    as_before : IsUnchangedButSkips c.src c.last old new
    as_before = record {
      skipped = done;
      no_text = no_text;
      come_first = decodes.call.residual;
      pending = was_pending;
      set = decodes.call.set;
      encoding = same_encoding;
      unfinished = decodes.finished;
      same = same_if_none;
    }

    -- where each sequence has a text, nothing is done: a byte order mark has more bytes than are
    -- pending
    no_mark_done : (m : Mark) (ss : List Sequence) → ss ≡ done
        → find_mark old.marks (old.pending ++ (c.src ++ [])) ≡ Some m
        → AreFirstSequences ss (remaining_sequences old (c.src ++ [])) → ss ≡ []
    no_mark_done m [] is_done found first = refl
    no_mark_done m (s ∷ ss) is_done found first =
        let longer : length old.pending < length m.bytes =
        found_has (λ m. length old.pending < length m.bytes) old.marks
        (old.pending ++ (c.src ++ [])) m
        (subst (EachMark (λ m. length old.pending < length m.bytes)) holds.begun
        (begun_are_longer old.marks old.pending)) found in
        let of_mark = sym (marked_remaining old (c.src ++ []) m going found) ∙ first.1 in
        absurd (omega (
          arith,
          lengths,
          longer,
          ap (λ (t : Sequence). length t.bytes) (first_of _ s _ _ of_mark),
          ap (λ ts. length (sequence_bytes ts)) is_done,
          ap length was_pending,
        ))

    just_the_same : HasTexts (rule_of old.encoding) → new ≡ old
    just_the_same has =
        same_if_none (by_found (find_mark old.marks (old.pending ++ (c.src ++ []))) refl)
      where
        first : AreFirstSequences done (remaining_sequences old (c.src ++ []))
        first = (_, decodes.call.residual [] (λ _. refl))

        by_found : (found : Option Mark)
            → find_mark old.marks (old.pending ++ (c.src ++ [])) ≡ found → done ≡ []
        by_found None none =
            none_without_text (rule_of old.encoding) has old.set
            (old.pending ++ (c.src ++ [])) done first.0
            (sym (unmarked_remaining old (c.src ++ []) going none) ∙ first.1) no_text
        by_found (Some m) found = no_mark_done m done refl found first

-- a call that decodes a chunk answers as the contract of calls says
pub converts : {units_of : ℕ → List ℕ} {least : ℕ} {old new : DecoderState} (c : Call)
    → DetermineTexts units_of → TakesSmallTexts units_of least → HoldsMarks old
    → has_finished old ≡ false → DecodesChunk units_of old new c
    → AnswersDecode units_of least old new c
converts {units_of} c determine takes holds going decodes = record {
  decodes = decodes;
  need = meets_need c decodes.call;
  unchanged = λ full none_read none_written. as_before determine holds going c
      (rw (full, none_read, none_written) at decodes);
  same = λ full none_read none_written. just_the_same determine holds going c
      (rw (full, none_read, none_written) at decodes);
  progress = λ goes_on roomy. less_left takes c roomy c.result decodes goes_on;
}

pub converts_into : {units_of : ℕ → List ℕ} {old new : DecoderState} → DetermineTexts units_of
    → HoldsMarks old → has_finished old ≡ false → {c : CallInto} → DecodesInto units_of old new c
    → AnswersDecodeInto units_of old new c
converts_into determine holds going decodes = record {
  wrote = decodes.wrote;
  onto = decodes.onto;
  converts = λ least takes. converts _ determine takes holds going decodes.decodes;
}

-- small texts fit into four units of UTF-8, and two of UTF-16
pub four_bytes : TakesSmallTexts encode_utf8 4
four_bytes text small = small.utf_8

pub two_units : TakesSmallTexts encode_utf16 2
two_units text small = small.utf_16
