use Rattle.std.proofs.Common.{◌∙◌, ◌+◌, ◌-◌, arith}
use Rattle.enc_output.proofs.Utf8UnitsLemmas.{units_further}
use Rattle.enc_output.proofs.utf8_units.gather_units.Goals as goal

pub loop-at-preserved-then-to-at-ge16 : goal.loop-at-preserved-then-to-at-ge16
loop-at-preserved-then-to-at-ge16 c =
    let invariant = c.loop-at.invariant in
    let stored = c.store_sixteen-end.ensures in (
      omega arith,
      omega arith,
      omega (arith, stored.bound, invariant.2),
      omega (arith, stored.bound),
      stored.len ∙ invariant.4,
      units_further c.args.src.now c.args.from (c.loop-at.at - c.args.from) c.loop-at.at 16
          (c.loop-at.at + 16 - c.args.from) invariant.5 stored.stored
          (omega arith) (omega arith),
    )

pub loop-at-preserved : goal.loop-at-preserved
loop-at-preserved c =
    let invariant = c.loop-at.invariant in
    let stored = c.store_one-end.ensures in (
      omega arith,
      omega arith,
      omega (arith, stored.bound, invariant.2),
      omega (arith, stored.bound),
      stored.len ∙ invariant.4,
      units_further c.args.src.now c.args.from (c.loop-at.at - c.args.from) c.loop-at.at 1
          (c.loop-at.at + 1 - c.args.from) invariant.5 stored.stored
          (omega arith) (omega arith),
    )
