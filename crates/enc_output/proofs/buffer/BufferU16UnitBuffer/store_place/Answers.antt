use Rattle.std.proofs.Common.{arith}
use Rattle.std.proofs.lemmas.List.{take_all}
use Rattle.enc_output.proofs.GatherLemmas.{unit_put}
use Rattle.enc_output.proofs.buffer.BufferU16UnitBuffer.store_place.Goals as goal

pub returns-clause-stored : goal.returns-clause-stored
returns-clause-stored g c was_stored bytes at some =
    unit_put (omega arith) (take_all _ bytes (omega arith))
    (c.unit_at-unit.ensures (omega arith) bytes at) some (omega arith)
    (omega (arith, c.requires.room))
    c.store_unit.ensures.stored
