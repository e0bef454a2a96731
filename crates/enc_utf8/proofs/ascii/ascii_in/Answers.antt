use Rattle.std.proofs.Common.{arith, leb-true, w8}
use Rattle.enc_utf8.proofs.AsciiLemmas.{low_fails}
use Rattle.enc_utf8.proofs.LaneLemmas.{ascii_before, no_others, before_others}
use Rattle.enc_utf8.proofs.ascii.ascii_in.Goals as goal

pub returns-then-others-eq0-clause-ascii : goal.returns-then-others-eq0-clause-ascii
returns-then-others-eq0-clause-ascii c =
    no_others w8 16 (omega arith) _ c.fits-lanes.0 c.if-others-eq0.true

pub returns-else-others-eq0-clause-bound : goal.returns-else-others-eq0-clause-bound
returns-else-others-eq0-clause-bound c =
    let before = before_others w8 16 (omega arith) _ c.fits-lanes.0 c.if-others-eq0.false in
    omega (arith, before.bound)

pub returns-else-others-eq0-clause-ascii : goal.returns-else-others-eq0-clause-ascii
returns-else-others-eq0-clause-ascii c =
    ascii_before (before_others w8 16 (omega arith) _ c.fits-lanes.0 c.if-others-eq0.false)

pub returns-else-others-eq0-clause-some : goal.returns-else-others-eq0-clause-some
returns-else-others-eq0-clause-some c low =
    let before = before_others w8 16 (omega arith) _ c.fits-lanes.0 c.if-others-eq0.false in
    before.some (low_fails _ low) (omega arith)

pub returns-else-others-eq0-clause-ends : goal.returns-else-others-eq0-clause-ends
returns-else-others-eq0-clause-ends c few =
    let before = before_others w8 16 (omega arith) _ c.fits-lanes.0 c.if-others-eq0.false in
    leb-true _ _ (before.stops (omega arith))
