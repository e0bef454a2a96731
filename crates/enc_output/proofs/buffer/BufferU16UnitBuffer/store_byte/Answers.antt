use Rattle.std.proofs.Common.{refl, arith}
use Rattle.enc_output.proofs.GatherLemmas.{unit_put}
use Rattle.enc_output.proofs.buffer.BufferU16UnitBuffer.store_byte.Goals as goal

pub returns-clause-stored : goal.returns-clause-stored
returns-clause-stored g c was_stored =
    unit_put (omega arith) refl (c.unit-unit.ensures (omega arith)) (omega arith) (omega arith)
    (omega (arith, c.requires.room)) c.store_unit.ensures.stored
