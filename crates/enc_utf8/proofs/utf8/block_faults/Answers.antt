use Rattle.enc_utf8.proofs.Utf8FaultLemmas.{follow_here}
use Rattle.enc_utf8.proofs.utf8.block_faults.Goals as goal

pub returns : goal.returns
returns c k few none = follow_here c.args.src.now c.args.at k few (c.faults.ensures k few none)
