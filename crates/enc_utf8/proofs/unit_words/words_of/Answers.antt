use Rattle.enc_utf8.proofs.UnitLanes as lanes
use Rattle.enc_utf8.proofs.unit_words.words_of.Goals as goal

pub returns : goal.returns
returns c =
    (lanes.words c.args.units c.fits-units.0 c.fits-units.1 c.fronts.ensures c.rests.ensures).1
