use Rattle.enc_utf8.proofs.PackedUnitLanes as lanes
use Rattle.enc_utf8.proofs.packed_units.short_fronts.Goals as goal

pub returns : goal.returns
returns c = (lanes.short_fronts c.args.units c.fits-units.0 c.requires.short).1
