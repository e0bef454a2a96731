use Rattle.std.proofs.Common.{refl, ap, ◌∙◌, sym, arith}
use Rattle.enc_decoder.specs.CodecState.{CodecState}
use Rattle.enc_decoder.proofs.ByteLemmas.{bytes_of_slice}
use Rattle.enc_decoder.proofs.EmissionLemmas.{nothing_pending}
use Rattle.enc_decoder.proofs.JoinedCallLemmas.{no_bytes}
use Rattle.enc_decoder.proofs.MachineLemmas.{first_run, stays, skips}
use Rattle.enc_decoder.proofs.machine.run.Goals as goal

pub returns-then-held-eq0 : goal.returns-then-held-eq0
returns-then-held-eq0 g c =
    let taken = c.take_run-ahead.ensures in
    let none_pending = no_bytes _ (sym c.held.ensures ∙ c.if-held-eq0.true) in
    record {
      call = stays g.C.ByteCodec.state c.take_run-ahead.result.0
          (first_run (bytes_of_slice _ c.type_inv.src) taken).reaches
          (omega arith, λ _. none_pending, nothing_pending _ none_pending);
      rule = ap (λ (s : CodecState). s.rule) taken.run.next_state;
    }

pub returns-in-Some : goal.returns-in-Some
returns-in-Some g c =
    let taken = c.take_run-ahead.ensures in
    let skipped = c.in-Some.ensures.skips in
    record {
      call = skips g.C.ByteCodec.state c.take_run-ahead.result.0
          (first_run (bytes_of_slice _ c.type_inv.src) taken).reaches skipped
          (c.in-Some.ensures.last refl);
      rule = ap (λ (s : CodecState). s.rule) skipped.next_state
          ∙ ap (λ (s : CodecState). s.rule) taken.run.next_state;
    }

pub returns : goal.returns
returns g c = c.run_on.ensures _ _ c.take_run-ahead.ensures
