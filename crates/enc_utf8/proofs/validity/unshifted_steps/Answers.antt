use Rattle.std.proofs.Common.{arith}
use Rattle.enc_utf8.proofs.LaneLemmas.{unshifted_more}
use Rattle.enc_utf8.proofs.validity.unshifted_steps.Goals as goal

pub loop-at-preserved : goal.loop-at-preserved
loop-at-preserved c = (
  omega arith,
  unshifted_more _ _ _ c.loop-at.invariant.1 (c.are_unshifted.ensures c.if-not-are_unshifted.false),
)
