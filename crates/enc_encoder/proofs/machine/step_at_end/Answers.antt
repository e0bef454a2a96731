use Rattle.std.proofs.Common.{sym, subst, true, []}
use Rattle.enc_encoder.specs.declared.transition.Transition.{Transition}
use Rattle.enc_encoder.specs.CharLaw.{IsNextStep}
use Rattle.enc_encoder.proofs.HandlerLemmas.{ends_pending}
use Rattle.enc_encoder.proofs.machine.step_at_end.Goals as goal

pub returns-in-Some : goal.returns-in-Some
returns-in-Some g c =
    subst (λ (t : Transition g.row.E.Denot). IsNextStep g.E.CharEncoder.state c.args.encoder true []
    t)
    (sym c.take_escape.ensures.value)
    (ends_pending g.E.CharEncoder.state c.args.encoder c.in-Some.next c.in-Some.ensures
    c.take_escape.result.bytes c.take_escape.ensures.bytes)
