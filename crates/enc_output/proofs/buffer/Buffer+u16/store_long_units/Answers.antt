use Rattle.std.proofs.Common.{◌≡◌, ◌∙◌, ◌+◌, ◌-◌, length, take, drop, ap, refl, arith}
use Rattle.std.proofs.lemmas.Bool.{and_parts}
use borrow.Rule.Slice.PartMut.{put_mid}
use lib.Lanes.{put_chunk}
use Rattle.enc_utf8.proofs.LengthLemmas.{lengths}
use Rattle.enc_output.specs.CodeUnits.{units_of_bytes}
use Rattle.enc_output.proofs.CodeUnitsLemmas.{lanes_units}
use Rattle.enc_output.proofs.PiecesLemmas.{then_rest}
use Rattle.enc_output.proofs.buffer.Buffer+u16.store_long_units.Goals as goal

pub returns-then-are_scalars-clause-puts : goal.returns-then-are_scalars-clause-puts
returns-then-are_scalars-clause-puts g c src long are_bytes are_more =
    let slice = c.args.self.now in
    let old = slice.units.now in
    let order = c.is_big_endian-big_endian in
    let both = and_parts _ _ c.if-are_scalars.true in
    let of_bytes = units_of_bytes order.result in
    let rest = take (length old - slice.len) (drop slice.len old) in
    let mid = put_mid slice.len (length old - slice.len) old
    (put_chunk 0 rest c.units_in-units.result) in
    let same : length mid ≡ length old = omega (arith, c.units_in-units.result, lengths) in
    let first = lanes_units order.result order.ensures slice.len 8 old c.units_in-units.result
    slice.units.ghost_name (omega arith) (omega arith) (omega arith) (omega (arith, long))
    (c.units_in-units.ensures ∙ ap of_bytes are_bytes) (c.are_scalars.ensures.scalars both.0)
    (c.are_scalars.ensures.alone 8) in
    let next = lanes_units {Means = g.P.Pieces.means c.args.pieces} order.result order.ensures
    (slice.len + 8) 8 mid c.units_in-next.result slice.units.ghost_name (omega (arith, same))
    (omega (arith, same)) (omega arith) (omega (arith, long, lengths))
    (c.units_in-next.ensures ∙ ap of_bytes are_more)
    (c.are_scalars-2.ensures.scalars both.1) (c.are_scalars-2.ensures.alone 8) in
    let all : slice.len + 8 + 8 ≡ slice.len + 16 = omega arith in
    then_rest refl first (rw all at next)

pub returns-clause-puts : goal.returns-clause-puts
returns-clause-puts g c src long are_bytes are_more =
    let slice = c.args.self.now in
    let order = c.is_big_endian-big_endian in
    let before_surrogate = c.units_before_surrogate-count.ensures in
    lanes_units order.result order.ensures slice.len _ slice.units.now c.units_in-units.result
    slice.units.ghost_name (omega arith) (omega arith) before_surrogate.bound (omega (arith, long))
    (c.units_in-units.ensures ∙ ap (units_of_bytes order.result) are_bytes)
    before_surrogate.scalars (before_surrogate.alone _)
