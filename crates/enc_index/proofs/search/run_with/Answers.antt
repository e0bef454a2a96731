use Rattle.std.proofs.Common.{arith, sym}
use Rattle.enc_index.proofs.RunSearchLemmas.{right, left, hit, nothing}
use Rattle.enc_index.proofs.search.run_with.Goals as goal

pub loop-low-preserved-then-last-number : goal.loop-low-preserved-then-last-number
loop-low-preserved-then-last-number c =
    right c.requires.ascending _ c.loop-low.invariant (omega arith) (omega arith)
    c.if-last-number.true

pub loop-low-preserved : goal.loop-low-preserved
loop-low-preserved c =
    left c.requires.ascending _ c.loop-low.invariant (omega arith) (omega arith)
    c.if-number-first.true

pub returns-else-number-first-clause-first : goal.returns-else-number-first-clause-first
returns-else-number-first-clause-first c =
    sym (hit c.requires.ascending _ c.loop-low.invariant (omega arith) (omega arith)
    c.if-number-first.false c.if-last-number.false)

pub returns-clause-first : goal.returns-clause-first
returns-clause-first c = sym (nothing c.loop-low-test.false c.loop-low.invariant)
