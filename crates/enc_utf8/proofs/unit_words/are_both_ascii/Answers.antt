use Rattle.std.proofs.Common.{◌∙◌, sym}
use Rattle.enc_utf8.proofs.LaneLemmas.{both_below}
use Rattle.enc_utf8.proofs.unit_words.are_both_ascii.Goals as goal

pub returns : goal.returns
returns c own =
    both_below 0x80 c.args.units c.args.next (c.fits-units.0 ∙ sym c.fits-next.0)
    (c.are_ascii_units.ensures own)
