use Rattle.enc_decoder_utf.proofs.Utf16Lemmas.{unit_in_range}
use Rattle.enc_decoder_utf.proofs.utf_16.unit_char.Goals as goal

pub unwrap-requires : goal.unwrap-requires
unwrap-requires c =
    c.from_u32.ensures.succeeds
    (unit_in_range c.args.unit c.ranges.unit.fits c.requires.no_lead c.requires.no_trail)
