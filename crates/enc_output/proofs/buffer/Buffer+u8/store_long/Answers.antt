use Rattle.std.proofs.Common.{arith}
use Rattle.enc_output.proofs.GatherLemmas.{lanes_put}
use Rattle.enc_output.proofs.buffer.Buffer+u8.store_long.Goals as goal

pub returns-clause-stored : goal.returns-clause-stored
returns-clause-stored c =
    let slice = c.args.self.now in
    let long = c.fits-bytes.0 in
    lanes_put slice.len c.args.len slice.units.now c.args.bytes slice.units.ghost_name (omega arith)
    (omega (arith, long)) (omega (arith, long))
