use Rattle.std.proofs.Common.{◌∙◌}
use Rattle.enc_utf8.proofs.Lanes.{own, splat, widened, by_op, lane_at}
use Rattle.enc_output.proofs.PlaceLanes.{place_is}
use Rattle.enc_utf8.proofs.ByteLanes.{add16, times16, lane_bound}
use Rattle.enc_output.proofs.places.places_at.Goals as goal

pub returns : goal.returns
returns c k below =
    let args = c.args in
    let rows = by_op (widened (own args.rows c.fits-rows.0)) (splat args.row_len) times16 in
    let columns = by_op (widened (own args.columns c.fits-columns.0)) (splat 256) add16 in
    lane_at (by_op rows columns add16) k below
    ∙ place_is _ _ args.row_len (lane_bound args.rows k c.fits-rows below)
    (lane_bound args.columns k c.fits-columns below) c.requires.bound
