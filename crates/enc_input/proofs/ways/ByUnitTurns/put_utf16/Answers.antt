use Rattle.std.proofs.Common.{arith}
use Rattle.enc_input.proofs.WriteLoopLemmas.{writes_after_none, writes_on}
use Rattle.enc_input.proofs.ways.ByUnitTurns.put_utf16.Goals as goal

pub returns-then-len-eq16-clause-writes : goal.returns-then-len-eq16-clause-writes
returns-then-len-eq16-clause-writes g c =
    writes_after_none (omega arith) c.put_plain-plain.ensures c.put_units-len.ensures.writes

pub returns-clause-writes : goal.returns-clause-writes
returns-clause-writes g c =
    writes_after_none (omega arith) c.put_plain-plain.ensures
    (writes_on c.put_units-len.ensures.writes c.put_char-width.ensures)
