use Rattle.std.proofs.Common.{◌+◌, arith}
use Rattle.enc_utf8.proofs.Utf8RunLemmas.{longer, longer_from}
use Rattle.enc_utf8.proofs.utf8.utf8_front.Goals as goal

pub returns-then-len-lt16-clause-utf8 : goal.returns-then-len-lt16-clause-utf8
returns-then-len-lt16-clause-utf8 c =
    longer c.args.src.now c.loop-at.at c.chars_len-len.result c.loop-at.invariant.1
    c.chars_len-len.ensures.utf8

pub loop-at-preserved : goal.loop-at-preserved
loop-at-preserved c =
    let src = c.args.src.now in
    let at = c.loop-at.at in
    let len = c.chars_len-len.result in (
      omega arith,
      longer_from src (at + len) c.blocks_len-at.result (omega arith)
          (longer src at len c.loop-at.invariant.1 c.chars_len-len.ensures.utf8)
          c.blocks_len-at.ensures.utf8,
    )
