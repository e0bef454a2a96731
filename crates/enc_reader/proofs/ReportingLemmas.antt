-- What a turn of the decoder without replacement hands out and reports.
use Rattle.std.proofs.Common.{◌≡◌, ℕ, ◌+◌, ◌-◌, ◌^◌, ◌<◌, ◌≤◌, Bool, true, false, List, [], ◌∷◌, ◌++◌, length, take}
use Rattle.std.proofs.Common.{drop, map, Option, Some, None, refl, ap, ◌∙◌, sym, subst, arith, append-nil, ◌||◌}
use Rattle.std.proofs.Common.{length-append, append_assoc, chars}
use Rattle.std.proofs.lemmas.List.{length-take}
use Rattle.std.proofs.lemmas.Str.{chars-nil, chars-encodes}
use Rattle.std.specs.Char.{encode_utf8}
use Rattle.enc_utf8.specs.Text.{AreScalars, units_of_text}
use Rattle.enc_utf8.proofs.UnitsLemmas.{their_units}
use Rattle.enc_output.specs.declared.decoder_result.DecoderResult.{DecoderResult}
use Rattle.enc_output.specs.declared.decoder_result.DecoderResult.TheVariants.{InputEmpty, OutputFull, Malformed}
use Rattle.enc_decoder.specs.declared.byte_codec.Kind.{Kind}
use Rattle.enc_decoder.specs.declared.byte_codec.Kind.TheVariants as kind
use Rattle.enc_decoder.specs.Call.{AreReportedLens}
use Rattle.enc_decoder.specs.Sequence.{Sequence, sequence_bytes, sequence_text, any_malformed}
use Rattle.enc_decoder.specs.declared.error_mode.ErrorMode.TheVariants.{Fatal}
use Rattle.enc_decoder.proofs.SequenceLemmas.{sequence_bytes-one, scalars_of-one, units-one, any_malformed-one}
use Rattle.enc_decoder.proofs.SequenceLemmas.{or_true}
use Rattle.enc_stream.specs.Decoding.{DecoderState, has_finished, DecodesChunk}
use Rattle.enc_stream.proofs.DecoderCallLemmas.{bytes_done}
use Rattle.enc_stream.proofs.WholeInputLemmas.{remaining_bytes}
use Rattle.enc_utf8.proofs.LengthLemmas.{lengths}
use Rattle.enc_reader.specs.declared.decode_reader.reporting.MalformedLens.{MalformedLens}
use Rattle.enc_reader.specs.declared.malformed_sequence.MalformedSequence.{MalformedSequence}
use Rattle.enc_reader.specs.Recent.{SameEnd}
use Rattle.enc_reader.specs.Items.{Item, items_from, character_item, malformed_item}
use Rattle.enc_reader.specs.Reading.{ReaderState, ReadsOwed, owed_sequences}
use Rattle.enc_reader.specs.Turn.{IsTurn}
use Rattle.enc_reader.specs.Counting.{HasGiven, owed_items, PassesItems, CountsBytes, PullsCounted}
use Rattle.enc_reader.specs.Reporting.{lens_of_result, replacement_of_lens, reports_malformed, items_of_lens}
use Rattle.enc_reader.specs.Reporting.{HasShortLens, TurnPassesItems, ReportsItems}
use Rattle.enc_reader.specs.Reporting.{items_if}
use Rattle.enc_reader.specs.Source.{IsExhausted}
use Rattle.enc_reader.proofs.RecentLemmas.{SameEnd-append, bytes_at_end}
use Rattle.enc_reader.proofs.ItemLemmas.{items-append, items_text, items_last}
use Rattle.enc_reader.proofs.ReadingLemmas.{ReaderPlace, reader_at, ReadsOwed-then}
use Rattle.enc_reader.proofs.CountingLemmas.{first_offset, offset_after, passes_done, passes_none, Passes-turn}
use Rattle.enc_reader.proofs.CountingLemmas.{HasCounted, HasCounted-turn, HasCounted-more}
use Rattle.enc_reader.proofs.CountingLemmas.{HandsOut-read, HasGiven-then}
use Rattle.enc_reader.proofs.TurnLemmas.{CanDecode, HandsOutSequences, unread_call, reads_owed, is_turn}

-- The characters of a text in UTF-8 are the text.
chars_of_units : (units text : List ℕ) → AreScalars text
    → units ≡ units_of_text encode_utf8 text → chars units ≡ text
chars_of_units units text scalars is = ap chars (is ∙ their_units text) ∙ chars-encodes text scalars

-- a call of the decoder without replacement with the unread bytes
module _ (before : ReaderState) {new : DecoderState} {room : ℕ} {result : DecoderResult}
    {read : ℕ} {wrote : List ℕ}
    (decodes : DecodesChunk encode_utf8 before.decoder new
    (unread_call before Fatal room result read wrote false))
    (can_decode : CanDecode before room) where
  abbrev after : ReaderState
  after = record { decoder = new; unread = drop read before.unread; ended = before.ended }

  abbrev Made : DecoderResult → Type 0
  Made r = DecodesChunk encode_utf8 before.decoder new
      (unread_call before Fatal room r read wrote false)

  -- The sequences done are those put out, and the one that is reported.
  hands_out_by : (r : DecoderResult) (made : Made r)
      → HandsOutSequences made.call.done (wrote ++ replacement_of_lens (lens_of_result r))
      (reports_malformed (lens_of_result r))
  unfolding encode_utf8
  hands_out_by InputEmpty made = rw (made.call.stops.only_put, append-nil wrote) (record {
    scalars = made.call.scalars;
    text = made.call.text;
    flag = made.call.flag;
  })
  hands_out_by OutputFull made = rw (made.call.stops.only_put, append-nil wrote) (record {
    scalars = made.call.scalars;
    text = made.call.text;
    flag = made.call.flag;
  })
  hands_out_by (Malformed l a) made =
      let put = made.call.put in
      let stops = made.call.stops in
      rw stops.then_next (record {
        scalars = scalars_of-one put stops.next made.call.scalars
            (subst AreScalars (sym stops.replacement) refl);
        text = ap (λ x. x ++ encode_utf8 0xFFFD) made.call.text ∙ sym (units-one encode_utf8 put
            stops.next ∙ rw stops.replacement refl);
        flag = sym (any_malformed-one put stops.next ∙ rw stops.malformed
            (or_true (any_malformed put)));
      })

  hands_out : HandsOutSequences decodes.call.done
      (wrote ++ replacement_of_lens (lens_of_result result))
      (reports_malformed (lens_of_result result))
  hands_out = hands_out_by result decodes

  -- With no report none of the sequences put out is malformed, since none is replaced.
  put_valid : (r : DecoderResult) (made : Made r) → any_malformed made.call.put ≡ false
  put_valid r made = sym made.call.flag

  -- The text put out is UTF-8, and its characters are those of the sequences put out.
  text_chars : (put : List Sequence) → AreScalars (sequence_text put)
      → wrote ≡ units_of_text encode_utf8 (sequence_text put) → chars wrote ≡ sequence_text put
  text_chars put scalars text =
      chars_of_units wrote (sequence_text put) scalars text

  -- The bytes pending and unread are those of the sequences owed.
  within_by : (l a : ℕ) (made : Made (Malformed l a)) (z : List ℕ)
      → length (sequence_bytes (owed_sequences after z))
      ≡ length new.pending + length after.unread + length z
  within_by l a made z =
      omega (arith, ap length (remaining_bytes new (after.unread ++ z) made.finished), lengths)

  -- `recent` ended with the bytes pending before the call, and ends with those read in it too.
  module _ (front : List ℕ) (same : SameEnd before.decoder.pending front)
      (given : ℕ) (among : length before.unread + length before.decoder.pending ≤ given)
      (z : List ℕ) (ends : after.ended ≡ true → z ≡ []) where
    abbrev recent : List ℕ
    recent = front ++ take read before.unread

    abbrev reads : ReadsOwed None None before after []
        (wrote ++ replacement_of_lens (lens_of_result result))
        (reports_malformed (lens_of_result result))
    reads = reads_owed before decodes can_decode hands_out None

    abbrev offset : ℕ
    offset = first_offset reads given among z ends

    -- the malformed sequence, by its place among the bytes read
    sequence_found : (l a : ℕ) (made : Made (Malformed l a)) → l + a ≤ length recent
        → take l (drop (length recent - a - l) recent) ≡ made.call.stops.next.bytes
    sequence_found l a made enough =
        let put = made.call.put in
        let stops = made.call.stops in
        let all : before.decoder.pending ++ take read before.unread
        ≡ sequence_bytes put ++ (stops.next.bytes ++ new.pending) =
        made.accounted ∙ ap (λ ss. sequence_bytes ss ++ new.pending) stops.then_next
        ∙ ap (λ bytes. bytes ++ new.pending) (sequence_bytes-one put stops.next)
        ∙ append_assoc (sequence_bytes put) stops.next.bytes new.pending in
        let found = bytes_at_end (sequence_bytes put) stops.next.bytes new.pending recent
        (subst (λ xs. SameEnd xs recent) all
        (SameEnd-append before.decoder.pending front (take read before.unread) same))
        (omega (arith, enough, stops.len, stops.pending)) in
        ap (λ n. take n (drop (length recent - a - l) recent)) stops.len
        ∙ ap (λ n. take (length stops.next.bytes) (drop (length recent - n - l) recent))
        stops.pending
        ∙ ap (λ n. take (length stops.next.bytes) (drop (length recent - length new.pending - n)
        recent)) stops.len
        ∙ found

    items_by : (r : DecoderResult) (made : Made r)
        → offset + length (sequence_bytes made.call.done)
        ≡ given + 0 + length z - length (sequence_bytes (owed_sequences after z))
        → HasShortLens (lens_of_result r) → 8 ≤ length front
        → items_from offset made.call.done ≡ map character_item (chars wrote)
        ++ items_of_lens given (length after.unread) recent (lens_of_result r)
    items_by InputEmpty made next_offset short long =
        ap (items_from offset) made.call.stops.only_put
        ∙ items_text offset made.call.put (put_valid InputEmpty made)
        ∙ ap (map character_item) (sym (text_chars made.call.put made.call.scalars made.call.text))
        ∙ sym (append-nil (map character_item (chars wrote)))
    items_by OutputFull made next_offset short long =
        ap (items_from offset) made.call.stops.only_put
        ∙ items_text offset made.call.put (put_valid OutputFull made)
        ∙ ap (map character_item) (sym (text_chars made.call.put made.call.scalars made.call.text))
        ∙ sym (append-nil (map character_item (chars wrote)))
    items_by (Malformed l a) made next_offset short long =
        let put = made.call.put in
        let stops = made.call.stops in
        let place : offset + length (sequence_bytes put)
        ≡ given - length after.unread - a - l = omega (
          arith,
          next_offset,
          among,
          stops.len,
          stops.pending,
          within_by l a made z,
          ap (λ ss. length (sequence_bytes ss)) stops.then_next,
          ap length (sequence_bytes-one put stops.next),
          bytes_done (unread_call before Fatal room (Malformed l a) read wrote false) made,
          made.call.within,
          lengths,
        ) in
        let found = sequence_found l a made (omega (
          arith,
          short.few,
          long,
          length-append front (take read before.unread),
        )) in
        ap (items_from offset) stops.then_next
        ∙ items_last offset put stops.next (sym made.call.flag) stops.malformed
        ∙ ap (λ text. map character_item text
        ++ malformed_item (offset + length (sequence_bytes put)) stops.next.bytes ∷ [])
        (sym (text_chars made.call.put made.call.scalars made.call.text))
        ∙ ap (λ n. map character_item (chars wrote) ++ malformed_item n stops.next.bytes ∷ []) place
        ∙ ap (λ bytes. map character_item (chars wrote)
        ++ malformed_item (given - length after.unread - a - l) bytes ∷ []) (sym found)

    passes : HasShortLens (lens_of_result result) → 8 ≤ length front
        → owed_items given before z
        ≡ (map character_item (chars wrote)
        ++ items_of_lens given (length after.unread) recent (lens_of_result result))
        ++ owed_items (given + 0) after z
    passes short long =
        passes_done reads given among z ends items_from items-append
        ∙ ap (λ items. items ++ owed_items (given + 0) after z)
        (items_by result decodes (offset_after reads given among z ends) short long)

  -- The lengths that are reported are short.
  short_lens : HasShortLens (lens_of_result result)
  short_lens = by_result result decodes
    where
      by_kind : (kind : Kind) (l a : ℕ) → AreReportedLens kind l a → (l ≤ 4) × (l + a ≤ 8)
      by_kind kind.RepeatedEscape l a bounds =
          (omega (arith, bounds.0), omega (arith, bounds.0, bounds.1))
      by_kind kind.Valid l a bounds = (bounds.0, omega (arith, bounds.2))
      by_kind kind.Skipped l a bounds = (bounds.0, omega (arith, bounds.2))
      by_kind kind.Malformed l a bounds = (bounds.0, omega (arith, bounds.2))

      by_result : (r : DecoderResult) → Made r → HasShortLens (lens_of_result r)
      by_result InputEmpty made = tt
      by_result OutputFull made = tt
      by_result (Malformed l a) made =
          let stops = made.call.stops in
          let bounds = by_kind stops.next.kind l a stops.bounds in
          record { some = stops.not_empty; short = bounds.0; few = bounds.1 }

  pub HasShortLens-call : HasShortLens (lens_of_result result)
  HasShortLens-call = short_lens

  pub TurnPassesItems-call : (front : List ℕ) → 8 ≤ length front
      → SameEnd before.decoder.pending front → {unread recent : List ℕ}
      → drop read before.unread ≡ unread → front ++ take read before.unread ≡ recent
      → TurnPassesItems before
      (record { decoder = new; unread = unread; ended = before.ended }) wrote
      (lens_of_result result) recent
  TurnPassesItems-call front long same rest_is recent_is =
      rw (← rest_is, ← recent_is)
      (λ given among z ends. passes front same given among z ends short_lens long)

  pub IsTurn-reporting : (waits : Bool) {unread : List ℕ} → drop read before.unread ≡ unread
      → (waits ≡ true
      → (wrote ≡ []) × (lens_of_result result ≡ None) × (has_finished new ≡ false))
      → (waits ≡ false → wrote ++ replacement_of_lens (lens_of_result result) ≡ []
      → has_finished new ≡ true)
      → IsTurn before (record { decoder = new; unread = unread; ended = before.ended })
      (wrote ++ replacement_of_lens (lens_of_result result))
      (reports_malformed (lens_of_result result)) waits
  IsTurn-reporting waits rest_is without_text text_or_end =
      is_turn before decodes can_decode waits rest_is hands_out without_text text_or_end

-- Sequences without text, of which none is malformed, have no items.
pub no_items : {k₀ k₁ : Option (List ℕ)} {a b : ReaderState} {bytes : List ℕ}
    (reads : ReadsOwed k₀ k₁ a b bytes [] false) (at : ℕ) → items_from at reads.done ≡ []
no_items reads at =
    items_text at reads.done (sym reads.flag)
    ∙ ap (map character_item) (sym (chars_of_units [] (sequence_text reads.done) reads.scalars
    reads.text) ∙ chars-nil)

-- a turn that does nothing
pub TurnPassesItems-none : (s : ReaderState) (recent : List ℕ)
    → TurnPassesItems s s [] None recent
TurnPassesItems-none s recent given among z ends =
    let same : given ≡ given + 0 = omega arith in
    rw chars-nil (ap (λ n. owed_items n s z) same)

-- A read up to now: what it has counted, its text, and the malformed sequence that it reports.
pub record HasReported (start now : ReaderPlace) (n₀ n₁ : ℕ) (text : List ℕ)
    (lens : Option MalformedLens) (recent : List ℕ) (waits : Bool) (pulls : ℕ) : Type 0 where
  pub so_far : HasCounted start now n₀ n₁ (text ++ replacement_of_lens lens)
      (reports_malformed lens) waits pulls
  pub passes : (given : ℕ) → length start.state.unread + length start.state.decoder.pending ≤ given
      → PassesItems given start.state now.state so_far.read.bytes (map character_item (chars text)
      ++ items_of_lens (given + length so_far.read.bytes) (length now.state.unread) recent lens)

pub HasReported-turn : {known : Option (List ℕ)} {s₀ s : ReaderState} {n₀ n₁ : ℕ} {text : List ℕ}
    {lens : Option MalformedLens} {recent : List ℕ} {waits : Bool}
    → IsTurn s₀ s (text ++ replacement_of_lens lens) (reports_malformed lens) waits
    → TurnPassesItems s₀ s text lens recent → CountsBytes s₀ s n₀ n₁ []
    → HasReported (reader_at known s₀) (reader_at known s) n₀ n₁ text lens recent waits 0
HasReported-turn {s = s} {text = text} {lens = lens} {recent = recent} turn passes_items counts =
    record {
      so_far = HasCounted-turn turn counts;
      passes = λ given among z ends. let same : given ≡ given + 0 = omega arith in
          passes_items given among z ends
          ∙ ap (λ n. (map character_item (chars text)
          ++ items_of_lens n (length s.unread) recent lens) ++ owed_items (given + 0) s z) same;
    }

module _ {start now next : ReaderPlace} {pulled : ReaderState} {n₀ n₁ n₂ n₃ : ℕ} where
  pub HasReported-more : {text : List ℕ} {lens : Option MalformedLens} {recent before : List ℕ}
      {waits : Bool} {pulls : ℕ}
      → HasReported start now n₀ n₁ [] None before true pulls
      → PullsCounted now.remaining next.remaining now.state pulled n₁ n₂
      → IsTurn pulled next.state (text ++ replacement_of_lens lens) (reports_malformed lens) waits
      → TurnPassesItems pulled next.state text lens recent
      → CountsBytes pulled next.state n₂ n₃ []
      → HasReported start next n₀ n₃ text lens recent waits (pulls + 1)
  HasReported-more {text = text} {lens = lens} {recent = recent} waited pull turn passes_items
      counts =
      let bytes : List ℕ = waited.so_far.read.bytes ++ pull.pulls.bytes in
      let pulled_reads : ReadsOwed start.remaining next.remaining start.state pulled bytes []
      false =
      ReadsOwed-then start now (reader_at next.remaining pulled) waited.so_far.read.reads
      pull.pulls.reads in
      record {
        so_far = HasCounted-more waited.so_far pull turn counts;
        passes = λ given among.
            let among_pulled : length pulled.unread + length pulled.decoder.pending
            ≤ given + length bytes = omega (
              arith,
              among,
              waited.so_far.counts.among,
              pull.counts.among,
              lengths,
            ) in
            Passes-turn items_from given start.state pulled next.state bytes
            (map character_item (chars text)
            ++ items_of_lens (given + length bytes) (length next.state.unread) recent lens)
            (λ e. ((turn.reads None).none_after e).1)
            (passes_none items_from items-append pulled_reads (no_items pulled_reads) given among)
            (passes_items (given + length bytes) among_pulled);
      }

-- A read that has come to text, to a malformed sequence or to the end.
module _ {start now : ReaderPlace} {n₀ n₁ : ℕ} where
  module _ {text recent : List ℕ} {pulls : ℕ} {lens : Option MalformedLens}
      (reported : HasReported start now n₀ n₁ text lens recent false pulls) where
    items_passed : (items : List Item)
        → items_of_lens n₁ (length now.state.unread) recent lens ≡ items → (given : ℕ)
        → HasGiven n₀ start.state given → given + length reported.so_far.read.bytes < 2 ^ 64
        → PassesItems given start.state now.state reported.so_far.read.bytes
        (map character_item (chars text) ++ items)
    items_passed items items_are given has small =
        let bytes : List ℕ = reported.so_far.read.bytes in
        let exact : given + length bytes ≡ n₁ =
        omega (arith, small, reported.so_far.counts.counted given has.counted) in
        subst (λ found. PassesItems given start.state now.state bytes
        (map character_item (chars text) ++ found))
        (ap (λ n. items_of_lens n (length now.state.unread) recent lens) exact ∙ items_are)
        (reported.passes given has.among)

  -- text alone
  pub ReportsItems-text : {text recent : List ℕ} {had_before had_after : Bool} {pulls : ℕ}
      → HasReported start now n₀ n₁ text None recent false pulls
      → had_after ≡ (had_before || false) → (now.state.ended ≡ true → IsExhausted now.remaining)
      → ReportsItems start.remaining now.remaining start.state now.state n₀ n₁ text None had_before
      had_after
  ReportsItems-text reported flag exhausted = record {
    hands_out = HandsOut-read reported.so_far flag exhausted;
    counts = HasGiven-then reported.so_far.counts;
    passed = items_passed reported [] refl;
  }

  -- text and a malformed sequence
  pub ReportsItems-malformed : {text recent : List ℕ} {lens : MalformedLens}
      {had_before had_after : Bool} {pulls : ℕ} (malformed : MalformedSequence)
      → HasReported start now n₀ n₁ text (Some lens) recent false pulls
      → had_after ≡ (had_before || true) → (now.state.ended ≡ true → IsExhausted now.remaining)
      → items_of_lens n₁ (length now.state.unread) recent (Some lens) ≡ items_if (Some malformed)
      → ReportsItems start.remaining now.remaining start.state now.state n₀ n₁ text (Some malformed)
      had_before had_after
  ReportsItems-malformed malformed reported flag exhausted items_are = record {
    hands_out = HandsOut-read reported.so_far flag exhausted;
    counts = HasGiven-then reported.so_far.counts;
    passed = items_passed reported (items_if (Some malformed)) items_are;
  }

-- A turn that hands out nothing has written nothing and reports nothing.
pub nothing_handed : (n : ℕ) (xs : List ℕ) (lens : Option MalformedLens) → n ≤ length xs
    → take n xs ++ replacement_of_lens lens ≡ [] → (n ≡ 0) × (lens ≡ None)
unfolding encode_utf8
nothing_handed n xs None within none =
    (omega (arith, within, ap length none, length-append (take n xs) [], length-take n xs), refl)
nothing_handed n xs (Some lens) within none =
    let three : length (encode_utf8 0xFFFD) ≡ 3 = refl in
    absurd (omega (arith, three, ap length none, length-append (take n xs) (encode_utf8 0xFFFD)))
