use Rattle.std.proofs.Common.{◌≡◌, ℕ, Bool, List, ◌∷◌, drop, ◌∙◌, ap}
use Rattle.enc_encoder.specs.declared.transition.Transition.{Transition}
use Rattle.enc_encoder.specs.EncoderRule.{RawEncoderState}
use Rattle.enc_encoder.specs.Text.{escape_sequence}
use Rattle.enc_encoder.specs.CharLaw.{HandlesCharacter, IsNextStep}
use Rattle.enc_encoder.proofs.HandlerLemmas.{acts_escaped, acts_written}
use Rattle.enc_encoder.proofs.machine.what_comes.Goals as goal

-- the step of the first character is the next one, if it is this step
comes_first : {E : Type 0} {state : E → RawEncoderState} {e : E} {last : Bool} {c : ℕ}
    {rest : List ℕ} {t wanted : Transition E}
    → rest ≡ c ∷ drop 1 rest → t ≡ wanted → HandlesCharacter state e c wanted
    → IsNextStep state e last rest t
comes_first {last = last} {rest = rest} first is handles =
    rw (is, first) (handles last (drop 1 rest))

pub returns-in-Some-escape_before : goal.returns-in-Some-escape_before
returns-in-Some-escape_before g c =
    let due = c.in-Some-escape_before.ensures in
    comes_first c.in-Some.ensures.first c.take_escape.ensures.value
    (acts_escaped g.E.CharEncoder.state c.args.encoder c.in-Some.c
    (c.first_written_char.ensures _ c.bytes-found.ensures) due.1 due.0 _ due.2 _
    (c.take_escape.ensures.bytes
    ∙ ap escape_sequence (c.set.ensures ∙ ap (λ (s : RawEncoderState). s.set) due.2)))

pub returns-in-None : goal.returns-in-None
returns-in-None g c =
    comes_first c.in-Some.ensures.first c.take_char.ensures.value
    (acts_written g.E.CharEncoder.state c.args.encoder c.in-Some.c
    (c.first_written_char.ensures _ c.bytes-found.ensures) c.in-None.ensures _ c.reported.ensures _
    _ c.bytes-found.ensures c.take_char.ensures.bytes)
