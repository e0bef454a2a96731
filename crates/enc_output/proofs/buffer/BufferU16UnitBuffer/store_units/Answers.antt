use Rattle.std.proofs.Common.{◌∙◌, ap, arith}
use Rattle.enc_output.specs.CodeUnits.{units_of_bytes}
use Rattle.enc_output.proofs.CodeUnitsLemmas.{lanes_units}
use Rattle.enc_output.proofs.buffer.BufferU16UnitBuffer.store_units.Goals as goal

pub returns-clause-puts : goal.returns-clause-puts
returns-clause-puts g c src long are_bytes =
    let slice = c.args.self.now in
    let order = c.is_big_endian in
    let before_surrogate = c.units_before_surrogate-scalars.ensures in
    lanes_units order.result order.ensures slice.len _ slice.units.now c.units_in-units.result
    slice.units.ghost_name (omega arith) (omega arith) before_surrogate.bound (omega (arith, long))
    (c.units_in-units.ensures ∙ ap (units_of_bytes order.result) are_bytes)
    before_surrogate.scalars (before_surrogate.alone _)
