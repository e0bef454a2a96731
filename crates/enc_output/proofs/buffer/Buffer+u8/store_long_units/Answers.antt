use Rattle.std.proofs.Common.{◌∙◌, ap, length, arith}
use Rattle.enc_utf8.proofs.LengthLemmas.{lengths}
use Rattle.enc_output.specs.CodeUnits.{units_of_bytes}
use Rattle.enc_output.proofs.CodeUnitsLemmas.{units_put, units_joined}
use Rattle.enc_output.proofs.GatherLemmas.{stored}
use Rattle.enc_output.proofs.buffer.Buffer+u8.store_long_units.Goals as goal

pub returns-clause-puts : goal.returns-clause-puts
returns-clause-puts g c src long are_bytes are_more =
    let buffer = c.args.self.now.units in
    let order = c.is_big_endian-big_endian in
    let units = c.store_sixteen_scalars-count.ensures in
    units_put order.result order.ensures 16 _ units.few long
    (units_joined order.result src long
    (c.units_in-units.ensures ∙ ap (units_of_bytes order.result) are_bytes)
    (c.units_in-next.ensures ∙ ap (units_of_bytes order.result) are_more)) units.scalars
    (omega (arith, lengths, units.bound, units.len, ap length units.stored))
    (stored buffer.now _ _ buffer.ghost_name (omega arith) (omega (arith, units.bound, units.len))
    units.len units.stored)
