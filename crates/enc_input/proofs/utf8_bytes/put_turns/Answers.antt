use Rattle.std.proofs.Common.{◌∙◌, arith}
use Rattle.enc_input.proofs.WriteLoopLemmas.{writes_then}
use Rattle.enc_input.proofs.utf8_bytes.put_turns.Goals as goal

pub loop-read-preserved : goal.loop-read-preserved
loop-read-preserved g c =
    let invariant = c.loop-read.invariant in
    let turn = c.put_turn-more.ensures in
    let both = writes_then invariant.2 turn.writes in
    (omega (arith, both.writes.fits, turn.len, invariant.1), turn.len ∙ invariant.1, both)

pub returns-then-not-goes_on : goal.returns-then-not-goes_on
returns-then-not-goes_on g c = writes_then c.loop-read.invariant.2 c.put_turn-more.ensures.writes
