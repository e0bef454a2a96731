use Rattle.enc_input.proofs.Utf8MappedLemmas.{own_written}
use Rattle.enc_input.proofs.turns.Turns.put_utf8.Goals as goal

pub returns-clause-writes : goal.returns-clause-writes
returns-clause-writes g c = own_written c.requires.utf8 c.put_ascii-len.ensures
