use Rattle.std.proofs.Common.{◌∙◌, ◌/◌, ◌^◌, leb, ltb, bit_and, w16}
use Rattle.enc_utf8.proofs.Lanes.{own, splat, widened, by_op, chosen, flag, lane_at}
use Rattle.enc_utf8.proofs.ByteLanes.{pairs, twos, threes, add16, times16, lane_bound}
use Rattle.enc_output.proofs.Utf8UnitLanes.{all_units_are}
use Rattle.enc_output.proofs.utf8_units.all_units.Goals as goal

pub returns : goal.returns
returns c k below =
    let args = c.args in
    let first = widened (own args.first c.fits-first.0) in
    let second = widened (own args.second c.fits-second.0) in
    let third = widened (own args.third c.fits-third.0) in
    let pair = (pairs first second).1 in
    let low = by_op (by_op (by_op pair (splat 0xFF80) add16) (splat 0x3FF) bit_and)
    (splat 0xDC00) add16 in
    let upper = by_op third (splat 4) (λ a b. a / 2 ^ b) in
    let four = by_op (by_op (by_op pair (splat 4) times16) upper add16) (splat 0xE5B8) add16 in
    let one = chosen w16 _ (by_op first (splat 0x80) (flag w16 ltb)) first low in
    let short = chosen w16 _ (by_op (splat 0xC0) first (flag w16 leb)) (twos first second).1 one in
    let long = chosen w16 _ (by_op (splat 0xE0) first (flag w16 leb))
    (threes first second third).1 short in
    lane_at (chosen w16 _ (by_op (splat 0xF0) first (flag w16 leb)) four long) k below
    ∙ all_units_are _ _ _ (lane_bound args.first k c.fits-first below)
    (lane_bound args.second k c.fits-second below) (lane_bound args.third k c.fits-third below)
