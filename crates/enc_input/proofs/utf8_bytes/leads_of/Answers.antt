use Rattle.enc_utf8.proofs.Lanes.{at_least, flag_bit}
use Rattle.enc_input.proofs.utf8_bytes.leads_of.Goals as goal

pub returns : goal.returns
returns c k below = flag_bit _ (at_least 0xC0 c.args.bytes c.fits-bytes.0) k below
