use Rattle.std.proofs.Common.{◌∙◌, get_or, bit_and, ap, sym, subst, arith}
use Rattle.enc_utf8.specs.declared.utf8_faults.TheConstants.{FIRST_UPPER, FIRST_LOWER, SECOND_UPPER}
use Rattle.enc_utf8.specs.Utf8Run.{ArePairFaults}
use Rattle.enc_utf8.proofs.Utf8FaultLemmas.{pair_faults_of}
use Rattle.enc_utf8.proofs.Lanes.{own, by_op, lane_at}
use Rattle.enc_utf8.proofs.ByteLanes.{lane_bound}
use Rattle.enc_utf8.proofs.utf8.pair_faults.Goals as goal

pub returns : goal.returns
returns c k few =
    let x = get_or c.args.first k 0 in
    let b = get_or c.args.second k 0 in
    let upper = c.pick.ensures.lanes k few
    ∙ ap (λ p. get_or FIRST_UPPER p 0) (c.upper_halves.ensures.value k few) in
    let lower = c.pick-2.ensures.lanes k few
    ∙ ap (λ p. get_or FIRST_LOWER p 0) (c.lower_halves.ensures.value k few) in
    let second = c.pick-3.ensures.lanes k few
    ∙ ap (λ p. get_or SECOND_UPPER p 0) (c.upper_halves-2.ensures.value k few) in
    let first_two = by_op (own c.pick.result (omega arith)) (own c.pick-2.result (omega arith))
    bit_and in
    subst (ArePairFaults x b)
    (sym (lane_at (by_op first_two (own c.pick-3.result (omega arith)) bit_and) k few))
    (pair_faults_of (lane_bound c.args.first k c.fits-first few)
    (lane_bound c.args.second k c.fits-second few) upper lower second)
