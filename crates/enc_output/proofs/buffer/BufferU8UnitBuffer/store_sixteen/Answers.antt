use Rattle.std.proofs.Common.{arith}
use Rattle.enc_utf8.proofs.UnitsLemmas.{ascii_units}
use Rattle.enc_output.proofs.GatherLemmas.{sixteen_put}
use Rattle.enc_output.proofs.buffer.BufferU8UnitBuffer.store_sixteen.Goals as goal

pub returns : goal.returns
returns c =
    sixteen_put ascii_units (omega (arith, c.fits-ascii.0)) c.requires.are_ascii c.requires.room
    c.store_front.ensures.stored
