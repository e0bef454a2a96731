use Rattle.std.proofs.lemmas.List.{get_or-drop}
use Rattle.std.proofs.Common.{◌+◌, refl, arith}
use Rattle.enc_utf8.proofs.EndsLemmas.{end_is, end_next}
use Rattle.enc_output.proofs.PairsLemmas.{puts_stored, some_byte}
use Rattle.enc_output.proofs.PiecesLemmas.{start, same_then}
use Rattle.enc_output.proofs.pairs.store_four.Goals as goal

pub loop-count-init : goal.loop-count-init
loop-count-init g c =
    (omega arith, refl, omega arith, omega arith, λ src long are. start)

pub store_place-requires-clause-place : goal.store_place-requires-clause-place
store_place-requires-clause-place g c =
    c.requires.places (c.args.start.from + c.loop-count.read)
    (omega (arith, c.loop-count.invariant.2))

pub returns-then-not-store_place-clause-puts : goal.returns-then-not-store_place-clause-puts
returns-then-not-store_place-clause-puts g c src long are =
    same_then (c.store_place.ensures.unchanged c.if-not-store_place.true)
    (c.loop-count.invariant.4 src long are)

pub loop-count-preserved : goal.loop-count-preserved
loop-count-preserved g c =
    let invariant = c.loop-count.invariant in
    let read = c.loop-count.read in
    let stored = c.store_place.ensures in
    let next = end_is c.args.start.leads c.loop-count.count read _ c.ends_of-ends.ensures
    c.loop-count-test.true invariant.1 (omega (arith, invariant.2)) in (
      omega arith,
      end_next c.ends_of-ends.result c.loop-count.count,
      omega (arith, invariant.2, next),
      omega (arith, invariant.3, stored.bound),
      λ src long are. puts_stored src c.args.start.leads read _ next
          (omega (arith, invariant.2, long)) (invariant.4 src long are)
          (stored.stored c.if-not-store_place.false _
          (rw (← get_or-drop c.args.start.from c.args.places.now read 0) (are read
          (omega (arith, invariant.2)))) (some_byte _ _ _)),
    )
