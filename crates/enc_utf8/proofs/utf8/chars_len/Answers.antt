use Rattle.std.proofs.Common.{arith}
use Rattle.enc_utf8.proofs.Utf8RunLemmas.{longer}
use Rattle.enc_utf8.proofs.utf8.chars_len.Goals as goal

pub loop-at-preserved : goal.loop-at-preserved
loop-at-preserved c = (
  omega arith,
  longer c.args.src.now c.loop-at.at c.char_len-len.result c.loop-at.invariant.1
      c.char_len-len.ensures.utf8,
)
