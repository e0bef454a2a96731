use Rattle.std.proofs.Common.{◌∙◌, bit_and, bit_or}
use Rattle.enc_utf8.proofs.Lanes.{splat, by_op, lane_at}
use Rattle.enc_utf8.proofs.Utf8FaultLemmas.{excesses, required_is}
use Rattle.enc_utf8.proofs.ByteLanes.{lane_bound}
use Rattle.enc_utf8.proofs.utf8.faults_within.Goals as goal

pub returns : goal.returns
returns c k below =
    let args = c.args in
    let second = (excesses 0x60 args.second c.fits-second.0).1 in
    let third = (excesses 0x70 args.third c.fits-third.0).1 in
    lane_at (by_op (by_op second third bit_or) (splat 0x80) bit_and) k below
    ∙ required_is _ _ (lane_bound args.third k c.fits-third below)
    (lane_bound args.second k c.fits-second below)
