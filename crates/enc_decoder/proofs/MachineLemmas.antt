-- The steps of the loop over the bytes of one call.
use Rattle.std.proofs.Common.{◌≡◌, ℕ, ◌+◌, Bool, true, false, List, [], ◌∷◌, length, drop, refl}
use Rattle.std.proofs.Common.{ap, ◌∙◌, sym, arith, subst, append-nil, nat_le, ◌||◌, get_or, zero-add}
use Rattle.std.proofs.Common.{length-drop}
use Rattle.std.proofs.lemmas.Bool.{false≢true, true≢false, leb-true, leb-false}
use Rattle.enc_decoder.specs.declared.byte_codec.Emission.{Emission}
use Rattle.enc_decoder.specs.declared.machine.NextEvent.TheVariants.{NeedsInput, HoldsByte, Emits}
use Rattle.enc_output.specs.declared.decoder_result.DecoderResult.TheVariants.{InputEmpty, OutputFull, Malformed}
use Rattle.enc_output.specs.Output.{Output, with_appended}
use Rattle.enc_utf8.specs.Text.{AreScalars, units_of_text}
use Rattle.enc_output.proofs.OutputLemmas.{with_appended-nil}
use Rattle.enc_decoder.specs.Sequence.{is_malformed, any_malformed}
use Rattle.enc_decoder.specs.Remainder.{Remainder, AreBytes}
use Rattle.enc_decoder.specs.CodecState.{CodecState, remainder_of}
use Rattle.enc_decoder.specs.CodecLaw.{IsNextEvent, text_chars, taken_bytes}
use Rattle.enc_decoder.specs.declared.byte_codec.Kind.{Kind}
use Rattle.enc_decoder.specs.declared.error_mode.ErrorMode.{ErrorMode}
use Rattle.enc_decoder.specs.declared.error_mode.ErrorMode.TheVariants.{Replacement, Fatal}
use Rattle.enc_decoder.specs.Call.{IsCallInto, is_replacement_mode, reports}
use Rattle.enc_decoder.proofs.SequenceLemmas.{or_false, or_true}
use Rattle.enc_decoder.proofs.StageLemmas.{Stage, stage_after, nothing_written}
use Rattle.enc_decoder.proofs.StateLeavesLemmas.{unread}
use Rattle.enc_decoder.specs.Taking.{TakesRun, TakesSequences, SkipsEnd}
use Rattle.enc_decoder.proofs.TakenRunLemmas.{reaches_run}
use Rattle.enc_decoder.proofs.OutputStageLemmas.{Reaches, Progress, progress_at, room_at, call_to, call_over}
use Rattle.enc_decoder.proofs.OutputStageLemmas.{reaches_state, start}
use Rattle.enc_decoder.proofs.NextEventLemmas.{end_after, end_is}
use Rattle.enc_decoder.proofs.SkippedEndLemmas.{skipped_end}
use Rattle.enc_decoder.proofs.EventLeavesLemmas as event

-- in error mode "fatal" what is not reported is not malformed
not_malformed : (mode : ErrorMode) (kind : Kind) → reports mode kind ≡ false
    → is_replacement_mode mode ≡ false → is_malformed kind ≡ false
not_malformed Replacement kind not_reported fatal = absurd (false≢true (sym fatal))
not_malformed Fatal kind not_reported fatal = not_reported

reported_in : (mode : ErrorMode) (kind : Kind) → reports mode kind ≡ true
    → (is_replacement_mode mode ≡ false) × (is_malformed kind ≡ true)
reported_in Replacement kind reported = absurd (false≢true reported)
reported_in Fatal kind reported = (refl, reported)

module _ {C : Type 0} {units_of : ℕ → List ℕ} (state : C → CodecState) {old : Remainder} (c : C)
    {before at : Output} {stage : Stage}
    (reaches : Reaches units_of old (remainder_of (state c)) before at stage) where
  -- a run without malformed sequences is taken
  pub after_run : {n : C} {then : Output} {took : ℕ} {rest : List ℕ} → rest ≡ unread stage
      → TakesRun units_of state c n rest took at then
      → Progress units_of old (remainder_of (state n)) stage.src stage.last stage.mode before then
      (stage.read + took) stage.replaced
  after_run {n} {then} {took} is_rest given =
      let run = subst (λ x. TakesRun units_of state c n x took at then) is_rest given in
      progress_at (reaches_run stage run.run reaches (λ _. run.none_malformed)) refl
      (ap (λ b. stage.replaced || b) run.none_malformed ∙ or_false stage.replaced)

  pub stays : IsNextEvent state c stage.src stage.read stage.last NeedsInput
      → IsCallInto units_of old (remainder_of (state c))
      (call_to stage before at InputEmpty stage.read)
  stays needs = call_over reaches (event.input_empty state c stage needs) (λ e. cc) refl
      (omega arith)

  -- the unread bytes end the input, and are skipped
  pub skips : {w : CodecState} → SkipsEnd (state c) w (unread stage) → stage.last ≡ true
      → IsCallInto units_of old (remainder_of w)
      (call_to stage before at InputEmpty (length stage.src))
  skips skipped is_last = call_over reaches (skipped_end stage skipped is_last) (λ e. cc) refl
      (omega (arith, length-drop stage.read stage.src, reaches.leaves.within))

  pub holds : {n : C} → IsNextEvent state c stage.src stage.read stage.last (HoldsByte n)
      → Progress units_of old (remainder_of (state n)) stage.src stage.last stage.mode before at
      (stage.read + 1) stage.replaced
  holds held = progress_at (reaches_state reaches (event.holds_byte state c stage held)
      nothing_written (sym (with_appended-nil at))) refl (or_false stage.replaced)

  module _ {s : Emission C} (emits : IsNextEvent state c stage.src stage.read stage.last (Emits s))
    where
      -- its text does not fit
      pub stops_full : {then : Output} → then ≡ at → reports stage.mode s.kind ≡ false
          → nat_le (length (units_of_text units_of (text_chars s.text))) at.room ≡ false
          → IsCallInto units_of old (remainder_of (state c))
          (call_to stage before then OutputFull stage.read)
      stops_full unchanged not_reported none_fits =
          let full = leb-false (length (units_of_text units_of (text_chars s.text))) at.room
          none_fits in
          call_over reaches
          (event.output_full state c stage emits
          (not_malformed stage.mode s.kind not_reported) full) (λ e. cc) unchanged (omega arith)

      -- the sequence is put out
      module _ {then : Output} (not_reported : reports stage.mode s.kind ≡ false)
          (scalars : AreScalars (text_chars s.text))
          (fits : nat_le (length (units_of_text units_of (text_chars s.text))) at.room ≡ true)
          (onto : then ≡ with_appended at (units_of_text units_of (text_chars s.text))) where
        abbrev then_at : Stage
        then_at = stage_after stage (event.count state c stage emits)
            (event.emitted state c stage emits ∷ [])
            (units_of_text units_of (text_chars s.text)) (is_malformed s.kind)

        reaches_next : Reaches units_of old (remainder_of (state s.next)) before then then_at
        reaches_next =
            let units = units_of_text units_of (text_chars s.text) in
            let same_text = sym (append-nil (text_chars s.text)) in
            reaches_state reaches (event.leads state c stage emits) (record {
              text = ap (units_of_text units_of) same_text;
              scalars = subst AreScalars same_text scalars;
              fits = omega (arith, leb-true (length units) at.room fits, room_at reaches);
              flag = sym (or_false (is_malformed s.kind));
              none_replaced = not_malformed stage.mode s.kind not_reported;
            }) onto

        pub puts : is_malformed s.kind ≡ false
            → Progress units_of old (remainder_of (state s.next)) stage.src stage.last stage.mode
            before then (end_after s.takes_byte stage.read) stage.replaced
        puts valid = progress_at reaches_next (end_is s.takes_byte stage.read _)
            (ap (λ b. stage.replaced || b) valid ∙ or_false stage.replaced)

        -- it is malformed, and whole sequences are put out after it
        pub replaces : {after : Output} {m : ℕ} {rest : List ℕ} → is_malformed s.kind ≡ true
            → rest ≡ drop (end_after s.takes_byte stage.read) stage.src
            → TakesSequences units_of (state s.next) (state s.next) rest m then after
            → Progress units_of old (remainder_of (state s.next)) stage.src stage.last stage.mode
            before after (end_after s.takes_byte stage.read + m) true
        replaces {after} {m} malformed is_rest given =
            let same_end = end_is s.takes_byte stage.read _ in
            let run = subst (λ x. TakesSequences units_of (state s.next) (state s.next) x m then
            after) (is_rest ∙ ap (λ k. drop k stage.src) (sym same_end)) given in
            progress_at (reaches_run then_at run reaches_next
            (λ fatal. absurd (true≢false (sym malformed
            ∙ not_malformed stage.mode s.kind not_reported fatal))))
            (ap (λ k. k + m) same_end) (ap (λ b. (stage.replaced || b) || any_malformed run.taken)
            malformed ∙ ap (λ b. b || any_malformed run.taken) (or_true stage.replaced))

      -- the sequence is malformed, and is reported
      pub stops_at : {a : ℕ} → reports stage.mode s.kind ≡ true → a ≡ length (state s.next).pending
          → IsCallInto units_of old (remainder_of (state s.next))
          (call_to stage before at (Malformed s.len a) (end_after s.takes_byte stage.read))
      stops_at reported is_pending =
          let fatal = reported_in stage.mode s.kind reported in
          call_over reaches
          (event.reported state c stage emits reaches.bytes fatal.0 fatal.1 is_pending)
          (λ escape. omega (
            arith,
            reaches.leaves.soon,
            ap (λ t. length (taken_bytes t (get_or stage.src stage.read 0))) (emits.0.late escape),
          ))
          refl (end_is s.takes_byte stage.read _)

module _ {C : Type 0} {units_of : ℕ → List ℕ} {state : C → CodecState} {c n : C} {src : List ℕ}
    {took : ℕ} {before then : Output} where
  -- a run is taken at the start of a call
  pub first_run : {last : Bool} {mode : ErrorMode} → AreBytes src
      → TakesRun units_of state c n src took before then
      → Progress units_of (remainder_of (state c)) (remainder_of (state n)) src last mode before
      then took false
  first_run {last} {mode} bytes taken = rw (zero-add took)
      at (after_run state c (start {last = last} {mode = mode} bytes).reaches refl taken)
