use Rattle.std.proofs.Common.{arith}
use Rattle.enc_utf8.proofs.Utf8FaultLemmas.{start_utf8}
use Rattle.enc_utf8.proofs.utf8.start_len.Goals as goal

pub returns-then-is_between-clause-utf8 : goal.returns-then-is_between-clause-utf8
returns-then-is_between-clause-utf8 c =
    let invariant = c.loop-end.invariant in
    start_utf8 c.args.src.now c.loop-end.end (omega arith) invariant.0 invariant.1
    (c.is_between.ensures c.if-is_between.true)
