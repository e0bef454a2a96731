use Rattle.std.proofs.Common.{◌∙◌, ap, sym, arith, chars, inl, inr}
use Rattle.encoding_rs.proofs.CharsOfTextLemmas.{IsCut, begin, one_more, within, boundary, is_end, front_chars, cut_at}
use Rattle.encoding_rs.proofs.chars_of_text.place_after.Goals.{else-loop-test, then-loop-test+in_default}
use Rattle.encoding_rs.proofs.chars_of_text.place_after.Goals as goal

pub loop-init : goal.loop-init
loop-init c = rw c.chars-rest.ensures.rest (begin c.args.text.now c.utf8.text)

pub loop-preserved : goal.loop-preserved
loop-preserved c = one_more c.loop.invariant c.in-Some.field-0 c.in-Some.ensures.steps.0

cut : (c : goal.After-as_str) → IsCut c.args.text.now c.as_str.result.now c.args.count
cut c = elim c.loop-test.branch [
  | else-loop-test w ↦ cut_at c.loop.invariant
      (c.as_str.ensures ∙ ap (λ r. r.rest.now) w.rest-is) c.loop.auto.counter-end
      (inl w.loop-test.false)
  | then-loop-test+in_default w ↦ cut_at c.loop.invariant
      (c.as_str.ensures ∙ ap (λ r. r.rest.now) (w.rest-is ∙ w.in_default.ensures.steps.0.1))
      c.loop.auto.counter-end (inr w.in_default.ensures.steps.0.0)
]

pub overflow_sub-result : goal.overflow_sub-result
overflow_sub-result c = let few = within (cut c).follows in omega arith

pub returns-clause-boundary : goal.returns-clause-boundary
returns-clause-boundary c = boundary (cut c).follows

pub returns-clause-front : goal.returns-clause-front
returns-clause-front c = front_chars (cut c).follows _ c.utf8.text (cut c).chars

pub returns-clause-back : goal.returns-clause-back
returns-clause-back c = ap chars (sym (is_end (cut c).follows)) ∙ (cut c).chars
