use Rattle.std.proofs.Common.{eqb}
use Rattle.enc_utf8.proofs.LaneLemmas.{unshifted_lanes}
use Rattle.enc_utf8.proofs.Lanes.{at_least, compared, either, none_set}
use Rattle.enc_utf8.proofs.validity.are_unshifted.Goals as goal

pub returns : goal.returns
returns c none =
    let lanes = c.args.lanes in
    let long = c.fits-lanes.0 in
    let shifts = either _ _ (compared eqb 0x0E lanes long) (compared eqb 0x0F lanes long) in
    let others = either _ _ (at_least 0x80 lanes long) (compared eqb 0x1B lanes long) in
    let special = either _ _ shifts others in
    unshifted_lanes lanes long (λ k below. none_set _ special k below none)
