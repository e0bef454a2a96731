-- A run of whole sequences leads from a stage of calls to a later one.
use Rattle.std.proofs.Common.{◌≡◌, ℕ, ◌<◌, false, List, [], ◌++◌}
use Rattle.std.proofs.Common.{take, refl, ap, ◌∙◌, sym, arith, append-nil, inl, inr}
use Rattle.std.proofs.lemmas.Bool.{cases_lt}
use Rattle.enc_output.specs.Output.{Output}
use Rattle.enc_utf8.specs.Text.{units_of_text}
use Rattle.enc_decoder.specs.Sequence.{sequence_bytes, sequence_text, any_malformed}
use Rattle.enc_decoder.specs.Remainder.{Remainder}
use Rattle.enc_decoder.specs.Call.{is_replacement_mode}
use Rattle.enc_decoder.specs.CodecState.{CodecState, remainder_of}
use Rattle.enc_decoder.specs.Taking.{TakesSequences}
use Rattle.enc_decoder.proofs.StageLemmas.{stage_after}
use Rattle.enc_decoder.proofs.EmissionLemmas.{nothing_pending}
use Rattle.enc_decoder.proofs.StateLeavesLemmas.{LeadsOn, unread}
use Rattle.enc_decoder.proofs.StageLemmas.{Stage}
use Rattle.enc_decoder.proofs.OutputStageLemmas.{Reaches, room_at, reaches_state}

-- At a stage, a codec takes whole sequences: the next n bytes lead it from the state v to w, and
-- their text is put out, from the output `at` to `then`.
module _ {units_of : ℕ → List ℕ} {v w : CodecState} (stage : Stage) {n : ℕ} {at then : Output}
    (run : TakesSequences units_of v w (unread stage) n at then) where
  abbrev pub run_units : List ℕ
  run_units = units_of_text units_of (sequence_text run.taken)

  -- after a run that reads something, no byte is pending
  none_pending_after : 0 < n → w.pending ≡ []
  none_pending_after some =
      ap (λ (s : CodecState). s.pending) run.next_state ∙ run.none_pending some

  leads_on : LeadsOn v w stage n run.taken
  leads_on = record {
    within = run.within;
    same_rule = ap (λ (s : CodecState). s.rule) run.next_state;
    set = ap (λ (s : CodecState). s.set) run.next_state;
    -- If bytes are read, none was pending and they are those of the sequences. If none is read, no
    -- sequence is taken, and the pending bytes stay.
    accounted = elim (cases_lt 0 n) [
      | inl some ↦
          ap (λ bytes. bytes ++ take n (unread stage)) (run.none_pending some) ∙ sym run.bytes
          ∙ sym (append-nil (sequence_bytes run.taken))
          ∙ ap (λ bytes. sequence_bytes run.taken ++ bytes) (sym (none_pending_after some))
      | inr none ↦
          let none_read : n ≡ 0 = omega arith in
          ap (λ k. v.pending ++ take k (unread stage)) none_read ∙ append-nil v.pending
          ∙ sym (ap (λ (s : CodecState). s.pending) run.next_state)
          ∙ sym (ap (λ ss. sequence_bytes ss ++ w.pending) (run.none_taken none_read))
    ];
    first = λ y follows. run.first y follows.more;
    undetermined = λ some. nothing_pending w (none_pending_after some);
  }

  -- Calls that have come to the stage go on after the run. `old` and `before` are the codec and the
  -- output at the start of the call.
  pub reaches_run : {old : Remainder} {before : Output}
      → Reaches units_of old (remainder_of v) before at stage
      → (is_replacement_mode stage.mode ≡ false → any_malformed run.taken ≡ false)
      → Reaches units_of old (remainder_of w) before then
      (stage_after stage n run.taken run_units (any_malformed run.taken))
  reaches_run reaches none_replaced = reaches_state reaches leads_on
      (record {
        text = refl;
        scalars = run.scalars;
        fits = omega (arith, run.fits, room_at reaches);
        flag = refl;
        none_replaced = none_replaced;
      }) run.written
