-- A search of index gb18030 ranges by code point finds the index gb18030 ranges pointer.
use Rattle.std.proofs.Common.{◌≡◌, ℕ, ◌+◌, ◌-◌, ◌<◌, Bool, true, refl, sym, ap, ◌∙◌, subst, ◌&&◌, Option, Some, None}
use Rattle.std.proofs.Common.{arith, eqb-true}
use Rattle.std.proofs.lemmas.Bool.{cond-true, cond-false, and_parts, and_from, false_from_ne_true, lt-ltb}
use Rattle.std.proofs.lemmas.Bool.Decides.{nat_tests}
use Rattle.enc_index.specs.declared.list.List.TheVariants.{Gb18030Ranges}
use Rattle.enc_index_pointers.specs.declared.pages.gb18030_ranges.TheConstants.{GB18030_RANGES_BY_CODE_POINT}
use Rattle.enc_index.specs.Index.{Run}
use Rattle.enc_index.specs.Runs.{runs_of, gb18030_ranges_at}
use Rattle.enc_index.specs.Search.{are_ascending_runs, run_with_pointer}
use Rattle.enc_index_pointers.specs.Pointers.{first_below, is_character, is_ranges_pointer, gb18030_ranges_pointer}
use Rattle.enc_index_pointers.proofs.BelowLemmas.{first_below-is}
use Rattle.enc_index.proofs.RangesAscend.{gb18030_ranges_ascends}
use Rattle.enc_index_pointers.proofs.RangeLemmas.{by_code_point, is_range, are_ranges, IsPointerOf}
use Rattle.enc_index_pointers.proofs.RangeLemmas.{pointer_in_run, sound}
use Rattle.enc_index_pointers.proofs.RangeLemmas.{complete}

are_all_ranges : are_ranges (runs_of Gb18030Ranges) ≡ true
unfolding runs_of is_range are_ranges
are_all_ranges = refl

all_by_code_point : by_code_point (runs_of Gb18030Ranges) ≡ GB18030_RANGES_BY_CODE_POINT.now
unfolding runs_of by_code_point
all_by_code_point = refl

pub by_code_point_ascends : are_ascending_runs 0 GB18030_RANGES_BY_CODE_POINT.now ≡ true
unfolding are_ascending_runs
by_code_point_ascends = refl

abbrev is_pointer_of : ℕ → ℕ → Bool
is_pointer_of c q = is_ranges_pointer q && is_character c (gb18030_ranges_at q)

is_character-Some : (c : ℕ) (o : Option ℕ) → is_character c o ≡ true → o ≡ Some c
is_character-Some c None h = cc
is_character-Some c (Some d) h = ap Some (eqb-true d c h)

Some-is_character : (c : ℕ) (o : Option ℕ) → o ≡ Some c → is_character c o ≡ true
Some-is_character c o h = subst (λ x. is_character c x ≡ true) (sym h) (grind (arith, nat_tests))

module _ (c : ℕ) where
  found_is_pointer : (run : Run) → run_with_pointer GB18030_RANGES_BY_CODE_POINT.now c ≡ Some run
      → IsPointerOf (runs_of Gb18030Ranges) c (run.2 + (c - run.0)) 0
  found_is_pointer run h =
      sound 0 (runs_of Gb18030Ranges) c run gb18030_ranges_ascends are_all_ranges
      (ap (λ l. run_with_pointer l c) all_by_code_point ∙ h)

  pub found_is_below : (run : Run) → run_with_pointer GB18030_RANGES_BY_CODE_POINT.now c ≡ Some run
      → run.2 + (c - run.0) < 1237576
  found_is_below run h = (found_is_pointer run h).below

  pointer_is_found : (q : ℕ) → is_pointer_of c q ≡ true
      → pointer_in_run c (run_with_pointer GB18030_RANGES_BY_CODE_POINT.now c) ≡ Some q
  pointer_is_found q h =
      let parts = and_parts _ _ h in
      let up = subst (λ l. are_ascending_runs 0 l ≡ true) (sym all_by_code_point)
      by_code_point_ascends in
      let found = complete 0 (runs_of Gb18030Ranges) c q up are_all_ranges parts.0
      (is_character-Some c _ parts.1) in
      sym (ap (λ l. pointer_in_run c (run_with_pointer l c)) all_by_code_point) ∙ found.0

  first_pointer : (o : Option Run) → run_with_pointer GB18030_RANGES_BY_CODE_POINT.now c ≡ o
      → first_below (is_pointer_of c) 1237576 ≡ pointer_in_run c o
  first_pointer None is_found =
      first_below-is (is_pointer_of c) 1237576 1237576 (λ l. absurd (omega arith))
      (λ q l t. absurd (let none_is_some = sym (ap (pointer_in_run c) is_found)
      ∙ pointer_is_found q t in cc))
  first_pointer (Some run) is_found =
      let found = found_is_pointer run is_found in
      first_below-is (is_pointer_of c) (run.2 + (c - run.0)) 1237576
      (λ _. and_from _ _ found.is_counted (Some-is_character c _ found.has))
      (λ q l t.
      let both_found = sym (ap (pointer_in_run c) is_found) ∙ pointer_is_found q t in
      let same : run.2 + (c - run.0) ≡ q = cc in omega (arith, same))
      ∙ cond-true _ _ _ (lt-ltb _ 1237576 found.below)

  pub ranges_pointer : (c ≡ 0xE7C7 → ⊥)
      → pointer_in_run c (run_with_pointer GB18030_RANGES_BY_CODE_POINT.now c)
      ≡ gb18030_ranges_pointer c
  unfolding gb18030_ranges_pointer
  ranges_pointer other =
      sym (first_pointer _ refl)
      ∙ sym (cond-false _ _ _ (false_from_ne_true _ (λ t. other (eqb-true c 0xE7C7 t))))

  pub private_use_pointer : c ≡ 0xE7C7 → Some 7457 ≡ gb18030_ranges_pointer c
  unfolding gb18030_ranges_pointer
  private_use_pointer same = subst (λ d. Some 7457 ≡ gb18030_ranges_pointer d) (sym same) refl
