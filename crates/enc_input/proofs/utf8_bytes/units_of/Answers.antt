use Rattle.std.proofs.Common.{◌∙◌, ltb, w16}
use Rattle.enc_utf8.proofs.Lanes.{own, splat, widened, by_op, chosen, flag, lane_at}
use Rattle.enc_input.proofs.Utf8BytesLemmas.{short_is}
use Rattle.enc_utf8.proofs.ByteLanes.{twos, lane_bound}
use Rattle.enc_input.proofs.utf8_bytes.units_of.Goals as goal

pub returns : goal.returns
returns c k below =
    let args = c.args in
    let first = widened (own args.first c.fits-first.0) in
    let two = (twos first (widened (own args.second c.fits-second.0))).1 in
    lane_at (chosen w16 _ (by_op first (splat 0x80) (flag w16 ltb)) first two) k below
    ∙ short_is _ _ (lane_bound args.first k c.fits-first below)
    (lane_bound args.second k c.fits-second below)
