use Rattle.enc_input.proofs.Utf16MappedLemmas.{own_written}
use Rattle.enc_input.proofs.WriteLoopLemmas.{writes_on}
use Rattle.enc_input.proofs.turns.Turns.put_utf16.Goals as goal

pub returns-then-len-eq16-clause-writes : goal.returns-then-len-eq16-clause-writes
returns-then-len-eq16-clause-writes g c =
    writes_on (own_written c.put_ascii-len.ensures)
    (own_written c.put_strides-more.ensures)

pub returns-clause-writes : goal.returns-clause-writes
returns-clause-writes g c = own_written c.put_ascii-len.ensures
