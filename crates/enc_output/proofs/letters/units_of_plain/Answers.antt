use Rattle.std.proofs.Common.{leb, w16}
use Rattle.enc_utf8.proofs.Lanes.{own, splat, widened, by_op, chosen, flag, lane_at}
use Rattle.enc_utf8.proofs.ByteLanes.{add16}
use Rattle.enc_output.proofs.letters.units_of_plain.Goals as goal

pub returns : goal.returns
returns c k below =
    let units = widened (own c.args.bytes c.fits-bytes.0) in
    lane_at (chosen w16 _ (by_op (splat 0x80) units (flag w16 leb))
    (by_op units (splat c.args.letters.shift) add16) units) k below
