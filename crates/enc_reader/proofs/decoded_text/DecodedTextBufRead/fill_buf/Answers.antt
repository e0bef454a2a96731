use Rattle.std.proofs.Common.{refl, ap, subst, length, [], le_of_eq}
use Rattle.enc_reader.specs.Errors.{IsErrorOfReader}
use Rattle.enc_reader.specs.HeldText.{text_state_of}
use Rattle.enc_reader.proofs.HeldTextLemmas.{takes_known, keeps_known, if_known, known_front, known_none}
use Rattle.enc_reader.proofs.decoded_text.DecodedTextBufRead.fill_buf.Goals as goal

pub returns-in-Err : goal.returns-in-Err
returns-in-Err g c =
    let kept = keeps_known _ _
    (takes_known _ _ _ _ [] c.fill_or_error.ensures.takes
    c.fill_or_error.new.self.reader.exhausted) in (
      (refl, λ _. tt, (kept, if_known _ (λ _. tt))),
      record {
        front = if_known _ (λ _. tt);
        end = if_known _ (λ _. tt);
        after_borrow = tt;
        retried = c.in-Err.ensures.error.retried;
        failed_before = λ failed.
            subst (λ r. IsErrorOfReader (g.R.Source.error r.reader.now) c.in-Err.error)
            (c.in-Err.ensures.unchanged failed) c.in-Err.ensures.error;
      },
    )

pub returns : goal.returns
returns g c =
    let value = c.held.ensures.value in
    let state = text_state_of c.fill_or_error.new.self in
    let source = g.R.Source.remaining c.fill_or_error.new.self.reader.reader.now in
    let kept = keeps_known _ _
    (takes_known _ source _ state [] c.fill_or_error.ensures.takes
    c.fill_or_error.new.self.reader.exhausted) in (
      (refl, λ _. tt, (kept, if_known _ (λ _. le_of_eq (ap length value)))),
      record {
        front = known_front _ source state c.held.result.now kept value;
        end = known_none _ source state c.held.result.now kept value c.in_default.ensures.end;
        after_borrow = tt;
        retried = tt;
        failed_before = tt;
      },
    )
