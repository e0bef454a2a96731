use Rattle.std.proofs.Common.{eqb-true}
use Rattle.enc_utf8.proofs.UnitWordsLemmas.{units_alone}
use Rattle.enc_utf8.proofs.UnitLanes.{all_before}
use Rattle.enc_utf8.proofs.unit_words.are_scalars.Goals as goal

pub returns-clause-scalars : goal.returns-clause-scalars
returns-clause-scalars c none =
    all_before c.args.units c.fits-units.0 c.fits-units.1 (eqb-true _ 0 none)

pub returns-clause-alone : goal.returns-clause-alone
returns-clause-alone c = units_alone c.args.units c.fits-units.1
