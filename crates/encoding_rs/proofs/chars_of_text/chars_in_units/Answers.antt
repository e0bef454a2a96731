use Rattle.std.proofs.Common.{arith}
use Rattle.encoding_rs.specs.Run.{units_of_call}
use Rattle.encoding_rs.proofs.CharsOfTextLemmas.{begin, one_more, within, some_units, none_taken, takes_one}
use Rattle.encoding_rs.proofs.CharsOfTextLemmas.{all_taken, at_end_taken}
use Rattle.encoding_rs.proofs.chars_of_text.chars_in_units.Goals as goal

pub loop-left-init : goal.loop-left-init
loop-left-init c =
    rw c.chars-rest.ensures.rest (record {
      follows = begin c.args.text.now c.utf8.text;
      leaves = none_taken (units_of_call c.args.utf16) c.args.text.now c.args.units;
    })

pub loop-left-preserved : goal.loop-left-preserved
loop-left-preserved c =
    let invariant = c.loop-left.invariant in
    let rest_is = c.in-Some.ensures.steps.0 in
    rw c.saturating_sub-left.ensures (record {
      follows = one_more invariant.follows c.in-Some.c rest_is;
      leaves = λ front back characters units. takes_one (units_of_call c.args.utf16) c.in-Some.c _
          invariant.follows.utf8 rest_is c.width.ensures.value c.loop-left-test.true
          (invariant.leaves front back characters units);
    })

pub overflow_add-count : goal.overflow_add-count
overflow_add-count c =
    let few = within (one_more c.loop-left.invariant.follows c.in-Some.c c.in-Some.ensures.steps.0)
    in
    search (arith, few)

pub returns-after-loop-left : goal.returns-after-loop-left
returns-after-loop-left c = λ front back characters units.
    all_taken (units_of_call c.args.utf16) (some_units c.args.utf16)
    (c.loop-left.invariant.leaves front back characters units) c.loop-left-test.false

pub returns-in_default : goal.returns-in_default
returns-in_default c = λ front back characters units.
    at_end_taken (units_of_call c.args.utf16) c.in_default.ensures.steps.0.0
    (c.loop-left.invariant.leaves front back characters units)
