use Rattle.std.proofs.Common.{length}
use Rattle.enc_sniff.proofs.LoopLemmas.{AttributesLeft}
use Rattle.enc_sniff.proofs.html.take_attributes.Given as goal

abbrev pub invariant-attributes : goal.invariant-attributes
invariant-attributes l = AttributesLeft l.bytes l.meta l.rest

abbrev pub decreases-attributes : goal.decreases-attributes
decreases-attributes l = length l.rest
