use Rattle.std.proofs.Common.{◌∙◌, get_or, bit_and, arith}
use Rattle.std.proofs.lemmas.Nat.{and_mask}
use Rattle.enc_utf8.proofs.Lanes.{own, splat, by_op, lane_at}
use Rattle.enc_utf8.proofs.utf8.lower_halves.Goals as goal

pub returns-clause-value : goal.returns-clause-value
returns-clause-value c k h =
    lane_at (by_op (own c.args.bytes c.fits-bytes.0) (splat 15) bit_and) k h
    ∙ and_mask (get_or c.args.bytes k 0) 4

pub returns-clause-bound : goal.returns-clause-bound
returns-clause-bound c k h =
    omega (
      arith,
      lane_at (by_op (own c.args.bytes c.fits-bytes.0) (splat 15) bit_and) k h,
      and_mask (get_or c.args.bytes k 0) 4,
    )
