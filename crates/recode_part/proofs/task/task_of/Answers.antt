use Rattle.std.proofs.Common.{rules, refl, inl, inr}
use Rattle.recode_part.proofs.task.task_of.Goals as goal

pub returns-in_default-handling-clause-refusal : goal.returns-in_default-handling-clause-refusal
returns-in_default-handling-clause-refusal c =
    (c.in-Some.from, c.in-Some.to, (search rules, search rules), search rules)

pub returns-then-not-line_feeds_divide-clause-refusal :
    goal.returns-then-not-line_feeds_divide-clause-refusal
returns-then-not-line_feeds_divide-clause-refusal c = (
  record {
    from = c.in-Some.from;
    to = c.in-Some.to;
    handling = c.in-Some-handling.handling;
    length = c.in-Some-bound.length;
  },
  record {
    labels = (search rules, search rules);
    part = search rules;
    length = search rules;
  },
  inl (refl, search rules),
)

pub returns-then-not-is_written_in_parts-clause-refusal :
    goal.returns-then-not-is_written_in_parts-clause-refusal
returns-then-not-is_written_in_parts-clause-refusal c = (
  record {
    from = c.in-Some.from;
    to = c.in-Some.to;
    handling = c.in-Some-handling.handling;
    length = c.in-Some-bound.length;
  },
  record {
    labels = (search rules, search rules);
    part = search rules;
    length = search rules;
  },
  inr (refl, search rules, search rules),
)
