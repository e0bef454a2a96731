use Rattle.std.proofs.Common.{drop, arith, refl, sym, ◌∙◌, rules}
use Rattle.enc_stream.proofs.WholeEncodingLemmas.{settled}
use Rattle.encoding_rs.specs.Run.{DecodeRunAdvances}
use Rattle.encoding_rs.proofs.RunLemmas.{run-next}
use Rattle.encoding_rs.proofs.DecodeRunLemmas.{starts_in_input, stays_in_input, has_run, whole_text}
use Rattle.encoding_rs.proofs.DecodeRunLemmas.{whole_flag, whole_places}
use Rattle.enc_stream.proofs.DecoderCallLemmas.{reported_so_far}
use Rattle.encoding_rs.proofs.DecodeEndLemmas.{ends}
use Rattle.encoding_rs.proofs.run.decode_run.Goals as goal

pub loop-call-init : goal.loop-call-init
loop-call-init c = rw (
  c.new_decoder_with_bom_handling-decoder.ensures,
  c.new-text.ensures.bytes,
  c.new-faults.ensures.items,
) (record {
  run = refl;
  in_input = starts_in_input c.args.handling c.args.encoding c.args.bytes.now;
  within = omega arith;
  made = refl;
})

pub loop-call-preserved : goal.loop-call-preserved
loop-call-preserved c =
    let invariant = c.loop-call.invariant in
    rw (c.in_ok-note_fault.ensures, c.reports.ensures)
    (let advances : DecodeRunAdvances c.args.bytes.now _ _ _ = record {
      result = c.in_ok-done.done.result;
      more = c.in_ok-done.done.read;
      replaced = c.in_ok-done.done.replaced;
      not_finished = sym c.is_finished.ensures ∙ c.if-is_finished.false;
      call = rw c.split_at.ensures.back at c.in_ok-done.ensures;
      read = refl;
      faults = refl;
      flag = refl;
    } in
    let in_input = stays_in_input invariant.in_input advances in
    record {
      run = run-next _ c.args.calls.now _ _ invariant.made c.loop-call-test.true invariant.run
          advances;
      in_input = in_input;
      within = in_input.within;
      made = omega arith;
    })

-- A reported sequence, and the bytes after it, are among the bytes read in the run.
pub note_fault-requires : goal.note_fault-requires
note_fault-requires c =
    let so_far = reported_so_far _ c.in_ok-done.ensures.answers.decodes in record {
      within = λ l a reported. omega (
        arith,
        so_far l a reported,
        c.loop-call.invariant.in_input.pending,
      );
    }

pub returns-clause-run : goal.returns-clause-run
returns-clause-run c = (
  c.loop-call.decoder,
  sym c.is_finished-finished.ensures,
  sym c.encoding-encoding.ensures,
  c.loop-call.invariant.run,
)

pub returns-clause-beginning : goal.returns-clause-beginning
returns-clause-beginning c =
    has_run _ _ c.loop-call.invariant.run (sym c.is_finished-finished.ensures)

pub returns-clause-text : goal.returns-clause-text
returns-clause-text c = λ f.
    whole_text (has_run _ _ c.loop-call.invariant.run (sym c.is_finished-finished.ensures ∙ f))

pub returns-clause-encoding : goal.returns-clause-encoding
returns-clause-encoding c =
    λ f. c.encoding-encoding.ensures
    ∙ sym (settled c.loop-call.decoder (drop c.loop-call.read c.args.bytes.now)
    (c.loop-call.invariant.in_input.none_awaited (sym c.is_finished-finished.ensures ∙ f)))
    ∙ c.loop-call.invariant.in_input.encoding

pub returns-clause-read : goal.returns-clause-read
returns-clause-read c = λ f.
    c.loop-call.invariant.in_input.all_read (sym c.is_finished-finished.ensures ∙ f)

pub returns-clause-errors : goal.returns-clause-errors
returns-clause-errors c = λ f.
    whole_flag (has_run _ _ c.loop-call.invariant.run (sym c.is_finished-finished.ensures ∙ f))

pub returns-clause-faults : goal.returns-clause-faults
returns-clause-faults c = λ f.
    whole_places (has_run _ _ c.loop-call.invariant.run (sym c.is_finished-finished.ensures ∙ f))

pub returns-clause-end : goal.returns-clause-end
returns-clause-end c =
    λ further. rw c.is_finished-finished.ensures
    (ends c.args.handling c.args.encoding _ _ c.loop-call.made _ (search rules) (search rules)
    further c.loop-call.invariant.run)
