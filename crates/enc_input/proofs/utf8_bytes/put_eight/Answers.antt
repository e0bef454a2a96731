use Rattle.std.proofs.Common.{drop, arith}
use Rattle.enc_utf8.proofs.LengthLemmas.{lengths}
use Rattle.enc_input.proofs.WriteLoopLemmas.{writes_then}
use Rattle.enc_input.proofs.utf8_bytes.put_eight.Goals as goal

pub returns-then-not-is_whole-clause-writes : goal.returns-then-not-is_whole-clause-writes
returns-then-not-is_whole-clause-writes g c =
    c.put_four-first.ensures.writes (drop c.args.from c.args.src.now) (omega (arith, lengths))
    c.lanes_at-lanes.ensures c.requires.utf8

pub returns-clause-writes : goal.returns-clause-writes
returns-clause-writes g c =
    let text = drop c.args.from c.args.src.now in
    let first = c.put_four-first.ensures.writes text (omega (arith, lengths))
    c.lanes_at-lanes.ensures c.requires.utf8 in
    writes_then first (c.put_four-second.ensures.writes text (omega (arith, lengths))
    c.lanes_at-lanes.ensures first.rest)
