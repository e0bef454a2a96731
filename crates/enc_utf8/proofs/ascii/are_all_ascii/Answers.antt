use Rattle.std.proofs.Common.{arith, w8}
use Rattle.enc_utf8.proofs.LaneLemmas.{ascii_of_mask}
use Rattle.enc_utf8.proofs.ascii.are_all_ascii.Goals as goal

pub returns : goal.returns
returns c = ascii_of_mask w8 64 (omega arith) c.args.lanes c.fits-lanes.0
