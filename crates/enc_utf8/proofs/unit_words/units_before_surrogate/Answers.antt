use Rattle.enc_utf8.proofs.UnitWordsLemmas.{units_alone}
use Rattle.enc_utf8.proofs.UnitLanes.{all_before, some_before}
use Rattle.enc_utf8.proofs.unit_words.units_before_surrogate.Goals as goal

pub returns-then-surrogates-eq0-clause-scalars : goal.returns-then-surrogates-eq0-clause-scalars
returns-then-surrogates-eq0-clause-scalars c =
    all_before c.args.units c.fits-units.0 c.fits-units.1 c.if-surrogates-eq0.true

pub returns-else-surrogates-eq0-clause-bound : goal.returns-else-surrogates-eq0-clause-bound
returns-else-surrogates-eq0-clause-bound c =
    (some_before c.args.units c.fits-units.0 c.fits-units.1 c.if-surrogates-eq0.false).0

pub returns-else-surrogates-eq0-clause-scalars : goal.returns-else-surrogates-eq0-clause-scalars
returns-else-surrogates-eq0-clause-scalars c =
    (some_before c.args.units c.fits-units.0 c.fits-units.1 c.if-surrogates-eq0.false).1

pub returns-then-surrogates-eq0-clause-alone : goal.returns-then-surrogates-eq0-clause-alone
returns-then-surrogates-eq0-clause-alone c = units_alone c.args.units c.fits-units.1

pub returns-else-surrogates-eq0-clause-alone : goal.returns-else-surrogates-eq0-clause-alone
returns-else-surrogates-eq0-clause-alone c = units_alone c.args.units c.fits-units.1
