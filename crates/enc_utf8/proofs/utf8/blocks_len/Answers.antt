use Rattle.enc_utf8.proofs.Utf8RunLemmas.{blocks_utf8}
use Rattle.enc_utf8.proofs.utf8.blocks_len.Goals as goal

pub returns-else-not-is_between-2-clause-utf8 : goal.returns-else-not-is_between-2-clause-utf8
returns-else-not-is_between-2-clause-utf8 c =
    let invariant = c.loop-end.invariant in
    blocks_utf8 c.loop-end.end c.args.src.now invariant.0
    (c.is_between.ensures c.if-not-is_between.false) invariant.1
    (c.is_between-in-loop-end.ensures c.if-not-is_between-2.false)
