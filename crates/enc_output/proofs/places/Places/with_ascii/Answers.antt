use Rattle.std.proofs.Common.{leb, w16}
use Rattle.enc_utf8.proofs.Lanes.{own, splat, widened, by_op, chosen, flag, lane_at, at_least, flag_bit}
use Rattle.enc_output.proofs.PlaceLanes.{is_set}
use Rattle.enc_output.proofs.places.Places.with_ascii.Goals as goal

pub returns-clause-leads : goal.returns-clause-leads
returns-clause-leads c k below =
    is_set _ _ (flag_bit _ (at_least 0x80 c.args.first c.fits-first.0) k below)

pub returns-clause-places : goal.returns-clause-places
returns-clause-places c k below =
    let first = widened (own c.args.first c.fits-first.0) in
    lane_at (chosen w16 _ (by_op (splat 0x80) first (flag w16 leb))
    (own c.args.pairs c.fits-pairs.0) first) k below
