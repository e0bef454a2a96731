use Rattle.enc_input.proofs.WriteLoopLemmas.{written_none, written_then}
use Rattle.enc_input.proofs.utf8_mapped.write_ones.Goals as goal

pub ones-init : goal.ones-init
ones-init g c = written_none c.requires.within c.requires.utf8

pub ones-preserved : goal.ones-preserved
ones-preserved g c = written_then c.ones.invariant c.put_utf8_char-width.ensures

pub returns-then-width-eq0 : goal.returns-then-width-eq0
returns-then-width-eq0 g c = (written_then c.ones.invariant c.put_utf8_char-width.ensures).front
