use Rattle.std.proofs.Common.{◌∙◌, bit_or, sym}
use Rattle.enc_utf8.proofs.Utf8FaultLemmas.{neither}
use Rattle.enc_utf8.proofs.Lanes.{own, by_op, lane_at}
use Rattle.enc_utf8.proofs.utf8.both_faults.Goals as goal

pub returns : goal.returns
returns c k h none =
    let args = c.args in
    neither _ _
    (sym (lane_at (by_op (own args.one c.fits-one.0) (own args.other c.fits-other.0) bit_or) k h)
    ∙ none)
