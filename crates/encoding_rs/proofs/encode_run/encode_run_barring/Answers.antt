use Rattle.std.proofs.Common.{◌+◌, ◌≤◌, ◌∙◌, ap, arith, refl, chars, drop, length, rules}
use Rattle.std.proofs.lemmas.List.{drop-drop, length-drop}
use Rattle.encoding_rs.specs.EncodeRun.{EncodeRunAdvances}
use Rattle.encoding_rs.proofs.RunLemmas.{run-next}
use Rattle.encoding_rs.proofs.EncodeCallLemmas.{few_chars}
use Rattle.encoding_rs.proofs.EncodeRunLemmas.{starts_in_text, stays_in_text, has_encoded, all_bytes}
use Rattle.encoding_rs.proofs.EncodeRunLemmas.{any_char, all_reports, all_read, read_within}
use Rattle.encoding_rs.proofs.EncodeEndLemmas.{ends}
use Rattle.encoding_rs.proofs.encode_run.encode_run_barring.Goals as goal

pub loop-call-init : goal.loop-call-init
loop-call-init c = rw (
  c.new_encoder_barring-encoder.ensures,
  c.new-bytes.ensures.items,
  c.new-unmappables.ensures.items,
) (record {
  run = refl;
  in_text = starts_in_text c.args.barred.now c.args.encoding (chars c.args.text.now);
  unread = refl;
  made = refl;
  utf8 = search rules;
})

pub overflow_add-read : goal.overflow_add-read
overflow_add-read c =
    let invariant = c.loop-call.invariant in
    let call = rw invariant.unread at c.in_ok-done.ensures.call in
    let few = few_chars c.args.text.now c.utf8.text in
    let all : c.loop-call.read + c.in_ok-done.done.read ≤ length (chars c.args.text.now) = omega (
      arith,
      read_within call,
      length-drop c.loop-call.read (chars c.args.text.now),
    ) in
    search (arith, few, all)

pub loop-call-preserved : goal.loop-call-preserved
loop-call-preserved c =
    let invariant = c.loop-call.invariant in
    let ended = rw invariant.unread at c.in_ok-done.ensures.ended in
    rw (c.in_ok-note_report.ensures, c.reports.ensures, ended)
    (let advances : EncodeRunAdvances (chars c.args.text.now) _ _ _ = record {
      result = c.in_ok-done.done.result;
      more = c.in_ok-done.done.read;
      replaced = c.in_ok-done.done.replaced;
      not_finished = c.if-finished.false;
      call = rw invariant.unread at c.in_ok-done.ensures.call;
      read = refl;
      unmappables = refl;
      flag = refl;
      finished = refl;
    } in
    record {
      run = run-next _ c.args.calls.now _ _ invariant.made c.loop-call-test.true invariant.run
          advances;
      in_text = stays_in_text invariant.in_text advances;
      unread = c.split_at_char.ensures.back ∙ ap (drop c.in_ok-done.done.read) invariant.unread
          ∙ drop-drop c.in_ok-done.done.read c.loop-call.read (chars c.args.text.now);
      made = omega (arith, invariant.made);
      utf8 = search rules;
    })

pub returns : goal.returns
returns c =
    let invariant = c.loop-call.invariant in
    record {
      run = (c.loop-call.encoder, invariant.run);
      made = search rules;
      calls = search rules;
      end = λ further. ends _ _ _ _ c.loop-call.made _ (search rules) (search rules) further
          invariant.run;
      beginning = has_encoded _ _ invariant.in_text invariant.run;
      bytes = λ f. all_bytes _ _ invariant.in_text invariant.run f;
      flag = λ f. any_char _ _ invariant.in_text invariant.run f;
      unmappables = λ f. all_reports _ _ invariant.in_text invariant.run f;
      read = λ f. all_read _ _ invariant.in_text invariant.run f;
    }
