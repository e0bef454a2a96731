use Rattle.std.proofs.Common.{arith}
use Rattle.enc_utf8.proofs.AsciiLemmas.{ascii_more}
use Rattle.enc_utf8.proofs.ascii.ascii_steps.Goals as goal

pub strides-preserved : goal.strides-preserved
strides-preserved c = (
  omega arith,
  ascii_more _ _ _ c.strides.invariant.1
      (c.are_all_ascii.ensures c.if-not-are_all_ascii.false),
)

pub steps-preserved : goal.steps-preserved
steps-preserved c = (
  omega arith,
  ascii_more _ _ _ c.steps.invariant.1
      (c.are_ascii.ensures.0 c.if-not-are_ascii.false),
)
