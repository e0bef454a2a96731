use Rattle.std.proofs.Common.{refl, ap, ◌∙◌, sym, arith, length, ◌≤◌}
use Rattle.enc_decoder.specs.CodecState.{CodecState, remainder_of}
use Rattle.enc_decoder.proofs.ByteLemmas.{bytes_of_slice}
use Rattle.enc_decoder.proofs.NextEventLemmas.{fewer_left, end_after}
use Rattle.enc_decoder.proofs.OutputStageLemmas.{Progress}
use Rattle.enc_decoder.proofs.MachineLemmas.{first_run, after_run, stays, holds, stops_full, puts, replaces, stops_at}
use Rattle.enc_decoder.proofs.machine.run_on.Goals as goal
use Rattle.enc_decoder.proofs.machine.run_on.Goals.{then-is_malformed, else-is_malformed}

pub events-init : goal.events-init
events-init g c = record {
  within = c.requires.within;
  progress = λ old before taken. first_run (bytes_of_slice _ c.type_inv.src) taken;
  rule = refl;
}

pub returns-in-NeedsInput : goal.returns-in-NeedsInput
returns-in-NeedsInput g c = λ old before taken. record {
  call = stays g.C.ByteCodec.state c.events.state
      (c.events.invariant.progress old before taken).reaches c.in-NeedsInput.ensures;
  rule = c.events.invariant.rule ∙ ap (λ (s : CodecState). s.rule) taken.run.next_state;
}

pub events-preserved-in-HoldsByte : goal.events-preserved-in-HoldsByte
events-preserved-in-HoldsByte g c = record {
  within = (let read = c.in-HoldsByte.ensures.0 in omega (arith, read));
  progress = λ old before taken. holds g.C.ByteCodec.state c.events.state
      (c.events.invariant.progress old before taken).reaches c.in-HoldsByte.ensures;
  rule = ap (λ (s : CodecState). s.rule) c.in-HoldsByte.ensures.1.0 ∙ c.events.invariant.rule;
}

pub returns-then-is_reported : goal.returns-then-is_reported
returns-then-is_reported g c = λ old before taken. record {
  call = stops_at g.C.ByteCodec.state c.events.state
      (c.events.invariant.progress old before taken).reaches c.in-Emits.ensures
      (sym c.if-is_reported.ensures) c.held.ensures;
  rule = c.in-Emits.ensures.0.same_rule ∙ c.events.invariant.rule
      ∙ ap (λ (s : CodecState). s.rule) taken.run.next_state;
}

pub returns-then-not-put_text : goal.returns-then-not-put_text
returns-then-not-put_text g c = λ old before taken. record {
  call = stops_full g.C.ByteCodec.state c.events.state
      (c.events.invariant.progress old before taken).reaches c.in-Emits.ensures
      (c.put_text.ensures.unchanged c.if-not-put_text.true)
      (sym c.if-is_reported.ensures) (sym c.if-not-put_text.ensures.fits);
  rule = c.events.invariant.rule ∙ ap (λ (s : CodecState). s.rule) taken.run.next_state;
}

pub events-preserved : goal.events-preserved
events-preserved g c = record {
  within = (let within = c.take_run-ahead.ensures.run.within in
      omega (arith, within, c.split_at-in-events.ensures.back_len));
  progress = λ old before taken.
      let reaches = (c.events.invariant.progress old before taken).reaches in
      let shown : Progress g.U.Units.units_of (remainder_of (g.C.ByteCodec.state old))
      (remainder_of (g.C.ByteCodec.state c.in-Emits.shown.next)) c.args.src.now
      c.args.options.last c.args.options.mode before (g.U.Units.output c.if-is_malformed.out)
      c.if-is_malformed.read c.if-is_malformed.replaced = elim c.if-is_malformed.branch [
        | then-is_malformed w ↦ rw (w.out-is, w.read-is, w.replaced-is)
            (replaces g.C.ByteCodec.state c.events.state reaches c.in-Emits.ensures
            (sym c.if-is_reported.ensures) (c.put_text.ensures.scalars c.if-not-put_text.false)
            (sym c.if-not-put_text.ensures.fits)
            (c.put_text.ensures.written c.if-not-put_text.false)
            (sym w.if-is_malformed.ensures) w.split_at.ensures.back w.replace_more-read.ensures)
        | else-is_malformed w ↦ rw (w.out-is, w.read-is, w.replaced-is)
            (puts g.C.ByteCodec.state c.events.state reaches c.in-Emits.ensures
            (sym c.if-is_reported.ensures) (c.put_text.ensures.scalars c.if-not-put_text.false)
            (sym c.if-not-put_text.ensures.fits)
            (c.put_text.ensures.written c.if-not-put_text.false)
            (sym w.if-is_malformed.ensures))
      ] in
      after_run g.C.ByteCodec.state c.in-Emits.shown.next shown.reaches
      c.split_at-in-events.ensures.back c.take_run-ahead.ensures;
  rule = ap (λ (s : CodecState). s.rule) c.take_run-ahead.ensures.run.next_state
      ∙ c.in-Emits.ensures.0.same_rule ∙ c.events.invariant.rule;
}

pub events-smaller : goal.events-smaller
events-smaller g c =
    let past : end_after c.in-Emits.shown.takes_byte c.events.read ≤ c.if-is_malformed.read =
    elim c.if-is_malformed.branch [
      | then-is_malformed w ↦ omega (arith, w.read-is)
      | else-is_malformed w ↦ omega (arith, w.read-is)
    ] in
    let next_state = c.take_run-ahead.ensures.run.next_state in
    let same_pending = ap (λ (s : CodecState). length s.pending) next_state in
    let fewer = fewer_left _ _ c.in-Emits.ensures.0
    (λ takes. (c.in-Emits.ensures.1 takes).0) c.events.invariant.within in
    omega (arith, fewer, same_pending, past)
