use Rattle.std.proofs.Common.{arith, w16}
use Rattle.enc_utf8.proofs.LaneLemmas.{ascii_before, no_others, before_others}
use Rattle.enc_input.proofs.utf16_mapped.ascii_units.Goals as goal

pub returns-then-others-eq0-clause-ascii : goal.returns-then-others-eq0-clause-ascii
returns-then-others-eq0-clause-ascii g c =
    no_others w16 g.row.N (omega arith) _ c.fits-units.0 c.if-others-eq0.true

pub returns-else-others-eq0-clause-bound : goal.returns-else-others-eq0-clause-bound
returns-else-others-eq0-clause-bound g c =
    let before = before_others w16 g.row.N (omega arith) _ c.fits-units.0 c.if-others-eq0.false in
    omega (arith, before.bound, c.fits-units.0)

pub returns-else-others-eq0-clause-ascii : goal.returns-else-others-eq0-clause-ascii
returns-else-others-eq0-clause-ascii g c =
    ascii_before (before_others w16 g.row.N (omega arith) _ c.fits-units.0 c.if-others-eq0.false)
