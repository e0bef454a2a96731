use Rattle.std.proofs.Common.{leb-false}
use Rattle.enc_utf8.proofs.Lanes.{at_least, none_set}
use Rattle.enc_output.proofs.utf8_units.are_narrow.Goals as goal

pub returns : goal.returns
returns c none k below =
    leb-false _ _ (none_set _ (at_least 0xF0 c.args.bytes c.fits-bytes.0) k below none)
