use Rattle.std.proofs.Common.{length}
use Rattle.enc_sniff.proofs.LoopLemmas.{MarkupLeft}
use Rattle.enc_sniff.proofs.html.meta_encoding.Given as goal

abbrev pub invariant-markup : goal.invariant-markup
invariant-markup l = MarkupLeft l.bytes l.rest

abbrev pub decreases-markup : goal.decreases-markup
decreases-markup l = length l.rest
