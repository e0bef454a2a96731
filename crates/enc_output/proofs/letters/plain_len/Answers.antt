use Rattle.std.proofs.Common.{arith}
use Rattle.enc_output.proofs.LetterLemmas.{plain_more}
use Rattle.enc_output.proofs.letters.plain_len.Goals as goal

pub loop-at-init : goal.loop-at-init
loop-at-init c = (omega arith, λ k d inside. absurd (omega (arith, inside)))

pub loop-at-preserved : goal.loop-at-preserved
loop-at-preserved c = (
  omega arith,
  plain_more c.args.letters c.loop-at.at c.args.src.now (omega arith) c.loop-at.invariant.1
      (c.are_plain.ensures c.if-not-are_plain.false),
)
