use Rattle.enc_input.proofs.WriteLoopLemmas.{writes_on}
use Rattle.enc_input.proofs.ways.CopiedTurns.put_utf16.Goals as goal

pub returns-clause-writes : goal.returns-clause-writes
returns-clause-writes g c = writes_on c.put_utf16-len.ensures.writes c.put_text-more.ensures
