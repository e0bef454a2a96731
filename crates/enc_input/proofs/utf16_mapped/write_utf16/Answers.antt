use Rattle.enc_input.proofs.Utf16MappedLemmas.{own_written}
use Rattle.enc_input.proofs.WriteLoopLemmas.{written_from, written_then}
use Rattle.enc_input.proofs.utf16_mapped.write_utf16.Goals as goal

pub sixteens-init : goal.sixteens-init
sixteens-init g c = written_from (own_written c.put_strides-read.ensures)

pub sixteens-preserved : goal.sixteens-preserved
sixteens-preserved g c = written_then c.sixteens.invariant c.put_utf16-len.ensures.writes

pub returns-then-not-goes_on : goal.returns-then-not-goes_on
returns-then-not-goes_on g c =
    (written_then c.sixteens.invariant c.put_utf16-len.ensures.writes).front

pub ones-preserved : goal.ones-preserved
ones-preserved g c = written_then c.ones.invariant c.put_utf16_char-width.ensures

pub returns-then-width-eq0 : goal.returns-then-width-eq0
returns-then-width-eq0 g c = (written_then c.ones.invariant c.put_utf16_char-width.ensures).front
