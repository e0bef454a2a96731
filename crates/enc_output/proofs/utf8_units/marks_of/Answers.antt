use Rattle.std.proofs.Common.{ltb}
use Rattle.enc_utf8.proofs.Lanes.{at_least, compared, either, flag_bit}
use Rattle.enc_output.proofs.utf8_units.marks_of.Goals as goal

pub returns : goal.returns
returns c k below =
    let bytes = c.args.bytes in
    let long = c.fits-bytes.0 in
    let begin = either _ _ (compared ltb 0x80 bytes long) (at_least 0xC0 bytes long) in
    flag_bit _ (either _ _ begin (at_least 0xF0 c.args.before c.fits-before.0)) k below
