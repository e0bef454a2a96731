use Rattle.std.proofs.Common.{◌∙◌, ap, sym, arith}
use Rattle.enc_index_pointers.proofs.RangeLemmas.{pointer_in_run}
use Rattle.enc_index_pointers.proofs.RangePointers.{by_code_point_ascends, found_is_below, private_use_pointer}
use Rattle.enc_index_pointers.proofs.RangePointers.{ranges_pointer}
use Rattle.enc_index_pointers.proofs.pointers.gb18030_ranges.gb18030_ranges.Goals as goal

pub returns-then-c-eq59335-clause-value : goal.returns-then-c-eq59335-clause-value
returns-then-c-eq59335-clause-value c = private_use_pointer c.args.c c.if-c-eq59335.true

pub run_with-requires : goal.run_with-requires
run_with-requires c = record { ascending = by_code_point_ascends }

pub overflow_add-result : goal.overflow_add-result
overflow_add-result c = let low = found_is_below c.args.c _ (sym c.in-Some.ensures.first) in
    omega (arith, low)

pub returns-in-Some-clause-value : goal.returns-in-Some-clause-value
returns-in-Some-clause-value c =
    ap (pointer_in_run c.args.c) c.in-Some.ensures.first
    ∙ ranges_pointer c.args.c c.if-c-eq59335.false

pub returns-in-None-clause-value : goal.returns-in-None-clause-value
returns-in-None-clause-value c =
    ap (pointer_in_run c.args.c) c.in-None.ensures.first
    ∙ ranges_pointer c.args.c c.if-c-eq59335.false

pub returns-in-Some-clause-bound : goal.returns-in-Some-clause-bound
returns-in-Some-clause-bound c = found_is_below c.args.c _ (sym c.in-Some.ensures.first)
