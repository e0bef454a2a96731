use Rattle.std.proofs.Common.{arith, refl}
use Rattle.enc_utf8.proofs.AsciiLemmas.{copies_more}
use Rattle.enc_utf8.proofs.ascii.copy_strides.Goals as goal

pub loop-at-preserved : goal.loop-at-preserved
loop-at-preserved c =
    copies_more c.loop-at.invariant (omega arith) (omega arith) 64 (omega arith) refl
    (c.are_all_ascii.ensures c.if-not-are_all_ascii.false)
