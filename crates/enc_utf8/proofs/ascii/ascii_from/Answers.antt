use Rattle.std.proofs.Common.{arith}
use Rattle.enc_utf8.proofs.AsciiMaskLemmas.{ascii_after}
use Rattle.enc_utf8.proofs.ascii.ascii_from.Goals as goal

pub returns-clause-ascii : goal.returns-clause-ascii
returns-clause-ascii c =
    ascii_after c.args.lanes c.args.from c.min.result c.fits-lanes.0 (omega arith) (omega arith)
