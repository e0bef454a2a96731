use Rattle.enc_utf8.proofs.UnitLanes as lanes
use Rattle.enc_utf8.proofs.unit_words.fronts.Goals as goal

pub returns : goal.returns
returns c = (lanes.fronts c.args.units c.fits-units.0 c.fits-units.1).1
