use Rattle.std.proofs.Common.{leb, ltb, w16}
use Rattle.enc_utf8.proofs.Lanes.{IsLanes, itself, splat_over, by_op, flag}
use Rattle.enc_input.specs.Letters.{letter_byte}
use Rattle.enc_input.proofs.LetterLemmas.{both, either, none_set, plain_units}
use Rattle.enc_input.proofs.letters.are_plain.Goals as goal

pub returns : goal.returns
returns c none =
    let letters = c.args.letters in
    let units = c.args.units in
    let bytes : IsLanes units c.letter_bytes-bytes.result (letter_byte letters) =
    record { is = c.letter_bytes-bytes.ensures } in
    let before = by_op bytes (splat_over units 16 letters.first c.fits-units.0) (flag w16 ltb) in
    let after = by_op (splat_over units 16 letters.last c.fits-units.0) bytes (flag w16 ltb) in
    let beyond = by_op (splat_over units 16 0x80 c.fits-units.0) (itself units) (flag w16 leb) in
    plain_units letters units (none_set _ (both _ _ beyond (either _ _ before after))
    c.fits-units.0 none)
