use Rattle.enc_input.proofs.Utf8MappedLemmas.{own_written}
use Rattle.enc_input.proofs.WriteLoopLemmas.{written_from, written_then}
use Rattle.enc_input.proofs.utf8_mapped.write_utf8.Goals as goal

pub sixteens-init : goal.sixteens-init
sixteens-init g c = written_from (own_written c.requires.utf8 c.put_strides-read.ensures)

pub sixteens-preserved : goal.sixteens-preserved
sixteens-preserved g c = written_then c.sixteens.invariant c.put_utf8-len.ensures.writes

pub returns-then-not-goes_on : goal.returns-then-not-goes_on
returns-then-not-goes_on g c =
    (written_then c.sixteens.invariant c.put_utf8-len.ensures.writes).front

pub returns : goal.returns
returns g c = (written_then c.sixteens.invariant c.write_ones-more.ensures).front
