use Rattle.std.proofs.Common.{◌<◌, sym, subst, ◌∙◌, arith}
use Rattle.enc_names.specs.Order.{word_number}
use Rattle.enc_names.proofs.WordSearchLemmas.{right, left, hit, nothing, start, text_is}
use Rattle.enc_names.proofs.search.search.Goals as goal

pub loop-low-init : goal.loop-low-init
loop-low-init c = record { halves = start _ _; within = omega arith }

pub loop-low-preserved-in-Less : goal.loop-low-preserved-in-Less
loop-low-preserved-in-Less c =
    let invariant = c.loop-low.invariant in
    let word_is = text_is c.args.table.now _ _ (omega (arith, invariant.within))
    c.as_bytes.ensures.value in
    record {
      halves = right c.requires.ascending _ invariant.halves (omega arith) (omega arith)
          (subst (λ x. word_number x < word_number c.args.word.now) word_is c.in-Less.ensures);
      within = invariant.within;
    }

pub returns-in-Equal-clause-place : goal.returns-in-Equal-clause-place
returns-in-Equal-clause-place c =
    let invariant = c.loop-low.invariant in
    let word_is = text_is c.args.table.now _ _ (omega (arith, invariant.within))
    c.as_bytes.ensures.value in
    sym (hit c.requires.ascending _ invariant.halves (omega arith) (omega arith)
    (sym word_is ∙ c.in-Equal.ensures))

pub loop-low-preserved : goal.loop-low-preserved
loop-low-preserved c =
    let invariant = c.loop-low.invariant in
    let word_is = text_is c.args.table.now _ _ (omega (arith, invariant.within))
    c.as_bytes.ensures.value in
    record {
      halves = left c.requires.ascending _ invariant.halves (omega arith) (omega arith)
          (subst (λ x. word_number c.args.word.now < word_number x) word_is c.in-Greater.ensures);
      within = omega (arith, invariant.within);
    }

pub returns-clause-place : goal.returns-clause-place
returns-clause-place c = sym (nothing c.loop-low-test.false c.loop-low.invariant.halves)
