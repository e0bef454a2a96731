use Rattle.std.proofs.Common.{◌≡◌, ◌∙◌, length, get_or, bit_xor, sym, arith}
use Rattle.enc_utf8.proofs.Utf8FaultLemmas.{can_follow}
use Rattle.enc_utf8.proofs.Lanes.{own, by_op, lane_at}
use Rattle.enc_utf8.proofs.utf8.faults.Goals as goal

pub returns : goal.returns
returns c k few none =
    let required = c.faults_within.result in
    let pairs = c.pair_faults.result in
    let required_long : length required ≡ 16 = omega arith in
    let pairs_long : length pairs ≡ 16 = omega arith in
    let required_at = get_or required k 0 in
    let pair_at = get_or pairs k 0 in
    can_follow required_at pair_at (c.faults_within.ensures k few) (c.pair_faults.ensures k few)
    (sym (lane_at (by_op (own required required_long) (own pairs pairs_long) bit_xor) k few) ∙ none)
