use Rattle.std.proofs.Common.{arith, w8}
use Rattle.enc_utf8.proofs.LaneLemmas.{ascii_of_mask, mask_of_ascii}
use Rattle.enc_utf8.proofs.ascii.are_ascii.Goals as goal

pub returns : goal.returns
returns c = (
  ascii_of_mask w8 16 (omega arith) c.args.lanes c.fits-lanes.0,
  mask_of_ascii w8 16 (omega arith) c.args.lanes c.fits-lanes.0,
)
