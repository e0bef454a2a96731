use Rattle.std.proofs.Common.{sym, rules}
use Rattle.enc_sniff.proofs.LoopLemmas.{next_attribute, no_attribute}
use Rattle.enc_sniff.proofs.html.take_attributes.Goals as goal

pub returns-in-None-clause-value : goal.returns-in-None-clause-value
returns-in-None-clause-value c = no_attribute c.attributes.invariant (sym c.in-None.ensures.value)

pub attributes-preserved : goal.attributes-preserved
attributes-preserved c =
    let arm = c.in-Some-Some-default in
    let found = rw arm.field-0-0-is at arm.ensures.value in
    let shorter = rw arm.field-0-0-is at arm.ensures.shorter in
    rw c.add-meta.ensures
    (next_attribute c.attributes.invariant (sym found) (shorter (search rules)))
