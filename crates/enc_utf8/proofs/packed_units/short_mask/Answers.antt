use Rattle.enc_utf8.proofs.PackedUnitLanes.{short_mask_below, short_lens}
use Rattle.enc_utf8.proofs.packed_units.short_mask.Goals as goal

pub returns-clause-bound : goal.returns-clause-bound
returns-clause-bound c = short_mask_below c.args.units c.fits-units.0 c.fits-units.1

pub returns-clause-lens : goal.returns-clause-lens
returns-clause-lens c = short_lens c.args.units c.fits-units.0 c.fits-units.1 c.requires.short
