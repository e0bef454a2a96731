use Rattle.std.proofs.Common.{sym, arith}
use Rattle.std.proofs.lemmas.Grind.{common_steps}
use Rattle.enc_sniff.proofs.LoopLemmas.{first_turn, next_turn, last_turn, no_turn}
use Rattle.enc_sniff.proofs.html.meta_encoding.Goals as goal

pub markup-init : goal.markup-init
markup-init c = first_turn _

pub markup-preserved : goal.markup-preserved
markup-preserved c =
    next_turn c.markup.invariant (sym c.in-NextByte.ensures.value) c.in-NextByte.ensures.shorter

pub returns-in-Return : goal.returns-in-Return
returns-in-Return c =
    last_turn c.markup.invariant (omega arith) (sym c.in-Return.ensures.value)

pub returns : goal.returns
returns c = no_turn c.markup.invariant (grind (arith, common_steps))
