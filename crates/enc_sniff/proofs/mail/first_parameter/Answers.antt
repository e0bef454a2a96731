use Rattle.std.proofs.Common.{sym}
use Rattle.enc_sniff.proofs.ParameterLemmas.{other_token, this_parameter, no_token}
use Rattle.enc_sniff.proofs.mail.first_parameter.Goals as goal

pub returns-in-Some-value_after : goal.returns-in-Some-value_after
returns-in-Some-value_after c =
    this_parameter c.tokens.invariant c.in-Some.ensures.value c.in-Some.ensures.shorter
    (sym c.in-Some-value_after.ensures)

pub tokens-preserved : goal.tokens-preserved
tokens-preserved c =
    other_token c.tokens.invariant c.in-Some.ensures.value c.in-Some.ensures.shorter
    (sym c.in-None-value_after.ensures)

pub returns-in-None : goal.returns-in-None
returns-in-None c = no_token c.tokens.invariant c.in-None.ensures.value
