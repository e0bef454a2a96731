use Rattle.std.proofs.Common.{arith}
use Rattle.enc_input.proofs.Utf8MappedLemmas.{found_at, second_within, third_within, fourth_within}
use Rattle.enc_input.proofs.utf8_mapped.found_at.Goals as goal

pub returns-then-first-lt224-clause-beyond : goal.returns-then-first-lt224-clause-beyond
returns-then-first-lt224-clause-beyond c = rw c.from_u32_unchecked.ensures
    ((found_at _ _ c.requires.utf8 c.requires.within c.requires.beyond).two (omega arith)).beyond

pub returns-then-first-lt224-clause-first : goal.returns-then-first-lt224-clause-first
returns-then-first-lt224-clause-first c = rw c.from_u32_unchecked.ensures
    ((found_at _ _ c.requires.utf8 c.requires.within c.requires.beyond).two (omega arith)).first

pub from_u32_unchecked-requires-then-first-lt240 : goal.from_u32_unchecked-requires-then-first-lt240
from_u32_unchecked-requires-then-first-lt240 c =
    ((found_at _ _ c.requires.utf8 c.requires.within c.requires.beyond).three (omega arith)
    (omega arith)).scalar

pub returns-then-first-lt240-clause-beyond : goal.returns-then-first-lt240-clause-beyond
returns-then-first-lt240-clause-beyond c = rw c.from_u32_unchecked-then-first-lt240.ensures
    ((found_at _ _ c.requires.utf8 c.requires.within c.requires.beyond).three (omega arith)
    (omega arith)).beyond

pub returns-then-first-lt240-clause-first : goal.returns-then-first-lt240-clause-first
returns-then-first-lt240-clause-first c = rw c.from_u32_unchecked-then-first-lt240.ensures
    ((found_at _ _ c.requires.utf8 c.requires.within c.requires.beyond).three (omega arith)
    (omega arith)).first

pub from_u32_unchecked-requires-2 : goal.from_u32_unchecked-requires-2
from_u32_unchecked-requires-2 c =
    ((found_at _ _ c.requires.utf8 c.requires.within c.requires.beyond).four (omega arith)).scalar

pub returns-clause-beyond : goal.returns-clause-beyond
returns-clause-beyond c = rw c.from_u32_unchecked-2.ensures
    ((found_at _ _ c.requires.utf8 c.requires.within c.requires.beyond).four (omega arith)).beyond

pub returns-clause-first : goal.returns-clause-first
returns-clause-first c = rw c.from_u32_unchecked-2.ensures
    ((found_at _ _ c.requires.utf8 c.requires.within c.requires.beyond).four (omega arith)).first

pub bounds-src-at-2 : goal.bounds-src-at-2
bounds-src-at-2 c = second_within _ _ c.requires.utf8 c.requires.within c.requires.beyond

pub bounds-src-at-3 : goal.bounds-src-at-3
bounds-src-at-3 c = third_within _ _ c.requires.utf8 c.requires.within (omega arith)

pub bounds-src-at-4 : goal.bounds-src-at-4
bounds-src-at-4 c = fourth_within _ _ c.requires.utf8 c.requires.within (omega arith)
