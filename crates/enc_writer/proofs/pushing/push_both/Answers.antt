use Rattle.std.proofs.lemmas.Result.{on_ok_weaker, on_err_weaker}
use Rattle.enc_writer.proofs.SinkLemmas.{AppendsContents-then, AppendsPrefix-front, AppendsPrefix-back, on_err}
use Rattle.enc_writer.proofs.pushing.push_both.Goals as goal

pub returns-in_err-push_all-clause-err : goal.returns-in_err-push_all-clause-err
returns-in_err-push_all-clause-err g c =
    on_err c.from_residual.result _
    (AppendsPrefix-front c.args.back.now c.in_err-push_all.ensures.err)

pub returns-clause-ok : goal.returns-clause-ok
returns-clause-ok g c =
    on_ok_weaker c.push_all-2.result
    (λ taken. AppendsContents-then _ _ _ c.args.front.now c.args.back.now
    c.in_ok-push_all.ensures.ok taken) c.push_all-2.ensures.ok

pub returns-clause-err : goal.returns-clause-err
returns-clause-err g c =
    on_err_weaker c.push_all-2.result
    (λ part. AppendsPrefix-back _ c.args.front.now c.in_ok-push_all.ensures.ok part)
    c.push_all-2.ensures.err
