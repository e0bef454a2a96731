use Rattle.std.proofs.Common.{arith}
use Rattle.enc_utf8.proofs.AsciiLemmas.{copies_more, copies_one}
use Rattle.std.proofs.lemmas.List.{map-id}
use Rattle.enc_output.proofs.widen.widen_ascii.Goals as goal

pub loop-at-preserved : goal.loop-at-preserved
loop-at-preserved c =
    copies_more c.loop-at.invariant (omega arith) (omega arith) 16 (omega arith) (map-id _)
    (c.are_ascii.ensures.0 c.if-not-are_ascii.false)

pub loop-at-2-preserved : goal.loop-at-2-preserved
loop-at-2-preserved c =
    copies_one c.loop-at-2.invariant (omega arith) (omega arith) (omega arith) (omega arith)
