use Rattle.std.proofs.Common.{◌∙◌, leb, ltb, w16}
use Rattle.enc_utf8.proofs.Lanes.{own, splat, widened, by_op, chosen, flag, lane_at}
use Rattle.enc_utf8.proofs.ByteLanes.{twos, threes, lane_bound}
use Rattle.enc_output.proofs.Utf8UnitLanes.{narrow_unit}
use Rattle.enc_output.proofs.utf8_units.narrow_units.Goals as goal

pub returns : goal.returns
returns c k below short gives =
    let args = c.args in
    let first = widened (own args.first c.fits-first.0) in
    let second = widened (own args.second c.fits-second.0) in
    let three = (threes first second (widened (own args.third c.fits-third.0))).1 in
    let long = chosen w16 _ (by_op (splat 0xE0) first (flag w16 leb)) three (twos first second).1 in
    lane_at (chosen w16 _ (by_op first (splat 0x80) (flag w16 ltb)) first long) k below
    ∙ narrow_unit _ _ _ short (lane_bound args.second k c.fits-second below)
    (lane_bound args.third k c.fits-third below) gives
