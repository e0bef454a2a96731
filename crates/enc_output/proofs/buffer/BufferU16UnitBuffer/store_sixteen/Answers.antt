use Rattle.std.proofs.Common.{arith}
use Rattle.std.proofs.lemmas.List.{map-id}
use Rattle.enc_utf8.proofs.UnitsLemmas.{ascii_units_16}
use Rattle.enc_output.proofs.GatherLemmas.{lanes_put, sixteen_put}
use Rattle.enc_output.proofs.buffer.BufferU16UnitBuffer.store_sixteen.Goals as goal

pub returns : goal.returns
returns c =
    let slice = c.args.self.now in
    let ascii = c.args.ascii in
    let long = c.fits-ascii.0 in
    sixteen_put ascii_units_16 (omega (arith, long)) c.requires.are_ascii c.requires.room
    (rw (map-id ascii) (lanes_put slice.len 16 slice.units.now ascii slice.units.ghost_name
    (omega arith) (omega (arith, long)) (omega (arith, long))))
