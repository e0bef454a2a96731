use Rattle.std.proofs.Common.{ltb, w8}
use Rattle.enc_utf8.proofs.Lanes.{own, splat, by_op, flag, at_least, either, none_set}
use Rattle.enc_output.proofs.LetterLemmas.{both, plain_byte}
use Rattle.enc_output.proofs.letters.are_plain.Goals as goal

pub returns : goal.returns
returns c none k below =
    let letters = c.args.letters in
    let bytes = c.args.bytes in
    let long = c.fits-bytes.0 in
    let before = by_op (own bytes long) (splat letters.first) (flag w8 ltb) in
    let after = by_op (splat letters.last) (own bytes long) (flag w8 ltb) in
    let others = both _ _ (at_least 0x80 bytes long) (either _ _ before after) in
    plain_byte letters _ (none_set _ others k below none)
