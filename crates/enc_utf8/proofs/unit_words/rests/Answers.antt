use Rattle.enc_utf8.proofs.UnitLanes as lanes
use Rattle.enc_utf8.proofs.unit_words.rests.Goals as goal

pub returns : goal.returns
returns c = (lanes.rests c.args.units c.fits-units.0 c.fits-units.1).1
