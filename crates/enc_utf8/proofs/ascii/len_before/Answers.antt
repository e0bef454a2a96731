use Rattle.std.proofs.Common.{eqb, arith, w8}
use Rattle.std.proofs.lemmas.Bool.{eqb-false}
use Rattle.std.proofs.lemmas.Simd.{bitmask_splat}
use Rattle.enc_utf8.proofs.LaneLemmas.{none_passes, some_passes}
use Rattle.enc_utf8.proofs.ascii.len_before.Goals as goal

pub returns-then-found-eq0-clause-none : goal.returns-then-found-eq0-clause-none
returns-then-found-eq0-clause-none c k d inside =
    let is = bitmask_splat w8 eqb c.args.lanes 16 c.args.byte c.fits-lanes.0 (omega arith) in
    eqb-false _ _ ((none_passes (λ x. eqb x c.args.byte) _ 16 c.fits-lanes.0 (omega arith) _ is
    c.if-found-eq0.true).fail k d inside)

pub returns-else-found-eq0-clause-bound : goal.returns-else-found-eq0-clause-bound
returns-else-found-eq0-clause-bound c =
    let is = bitmask_splat w8 eqb c.args.lanes 16 c.args.byte c.fits-lanes.0 (omega arith) in
    let before = some_passes (λ x. eqb x c.args.byte) _ 16 c.fits-lanes.0 (omega arith) _ is
    c.if-found-eq0.false in
    omega (arith, before.bound)

pub returns-else-found-eq0-clause-none : goal.returns-else-found-eq0-clause-none
returns-else-found-eq0-clause-none c k d inside =
    let is = bitmask_splat w8 eqb c.args.lanes 16 c.args.byte c.fits-lanes.0 (omega arith) in
    eqb-false _ _ ((some_passes (λ x. eqb x c.args.byte) _ 16 c.fits-lanes.0 (omega arith) _ is
    c.if-found-eq0.false).fail k d inside)
