use Rattle.std.proofs.Common.{◌/◌, ◌^◌, arith}
use Rattle.enc_utf8.proofs.Lanes.{own, splat, by_op, lane_at}
use Rattle.enc_utf8.proofs.ByteLanes.{lane_bound}
use Rattle.enc_utf8.proofs.utf8.upper_halves.Goals as goal

pub returns-clause-value : goal.returns-clause-value
returns-clause-value c k h =
    lane_at (by_op (own c.args.bytes c.fits-bytes.0) (splat 4) (λ a b. a / 2 ^ b)) k h

pub returns-clause-bound : goal.returns-clause-bound
returns-clause-bound c k h =
    omega (
      arith,
      lane_at (by_op (own c.args.bytes c.fits-bytes.0) (splat 4) (λ a b. a / 2 ^ b)) k h,
      lane_bound c.args.bytes k c.fits-bytes h,
    )
