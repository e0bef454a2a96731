use Rattle.enc_utf8.proofs.PackedUnitLanes.{absent_mask_below, absent_lens}
use Rattle.enc_utf8.proofs.packed_units.mask_of.Goals as goal

pub returns-clause-bound : goal.returns-clause-bound
returns-clause-bound c = absent_mask_below c.args.units c.fits-units.0

pub returns-clause-lens : goal.returns-clause-lens
returns-clause-lens c = absent_lens c.args.units c.fits-units.0
