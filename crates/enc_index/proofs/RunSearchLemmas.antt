-- A search by halves finds the first run that has a number, where runs ascend.
use Rattle.std.proofs.Common.{◌≡◌, ℕ, zero, suc, ◌+◌, ◌<◌, ◌≤◌, List, [], ◌∷◌, true, false, ◌&&◌, length, get_or, refl}
use Rattle.std.proofs.Common.{arith, inl, inr, leb-true, le-leb}
use Rattle.std.specs.Prelude.{nat_le, Some, None, ◌⊎◌}
use Rattle.std.proofs.lemmas.Bool.{and_parts, and_from, and_left, and_right, cases_lt, lt-leb}
use Rattle.std.proofs.lemmas.List.Recursion.{found_at, found_nowhere}
use Rattle.enc_index.specs.Index.{Run}
use Rattle.enc_index.specs.Search.{are_ascending_runs, run_with_pointer}

-- what stands beyond the end of a list of runs, where a place is asked for
abbrev pub no_run : Run
no_run = (0, 0, 0)

-- runs below low end before the number, and runs from high on begin after it
pub record Halving (runs : List Run) (n low high : ℕ) : Type 0 where
  pub order : low ≤ high
  pub range : high ≤ length runs
  pub before : (i : ℕ) → i < low → (get_or runs i no_run).1 < n
  pub after : (i : ℕ) → high ≤ i → i < length runs → n < (get_or runs i no_run).0

-- what the test says of the first run and of the others
pub ascending_parts : (bound : ℕ) (run : Run) (runs : List Run)
    → are_ascending_runs bound (run ∷ runs) ≡ true
    → (bound ≤ run.0) × (run.0 ≤ run.1) × (are_ascending_runs (run.1 + 1) runs ≡ true)
unfolding are_ascending_runs
ascending_parts bound run runs runs_ascend =
    let parts = and_parts _ _ runs_ascend in
    let head = and_parts _ _ parts.0 in
    (leb-true bound run.0 head.0, leb-true run.0 run.1 head.1, parts.1)

-- each run of an ascending list begins at the bound or after it, and ends where it begins or after
-- that
above : (bound : ℕ) (runs : List Run) → are_ascending_runs bound runs ≡ true → (i : ℕ)
    → i < length runs
    → (bound ≤ (get_or runs i no_run).0) × ((get_or runs i no_run).0 ≤ (get_or runs i no_run).1)
above bound [] runs_ascend i within = absurd (omega arith)
above bound (run ∷ runs) runs_ascend zero within =
    let parts = ascending_parts bound run runs runs_ascend in (parts.0, parts.1)
above bound (run ∷ runs) runs_ascend (suc i) within =
    let parts = ascending_parts bound run runs runs_ascend in
    let later = above (run.1 + 1) runs parts.2 i (omega arith) in
    (omega (arith, later.0, parts.0, parts.1), later.1)

-- a run ends before any later one begins
later : (bound : ℕ) (runs : List Run) → are_ascending_runs bound runs ≡ true → (i j : ℕ) → i < j
    → j < length runs → (get_or runs i no_run).1 < (get_or runs j no_run).0
later bound [] runs_ascend i j before within = absurd (omega arith)
later bound (run ∷ runs) runs_ascend i zero before within = absurd (omega arith)
later bound (run ∷ runs) runs_ascend zero (suc j) before within =
    let bounds = above (run.1 + 1) runs (ascending_parts bound run runs runs_ascend).2 j
    (omega arith) in
    omega (arith, bounds.0)
later bound (run ∷ runs) runs_ascend (suc i) (suc j) before within =
    later (run.1 + 1) runs (ascending_parts bound run runs runs_ascend).2 i j (omega arith)
    (omega arith)

pub outside : (run : Run) (n : ℕ) → (run.1 < n) ⊎ (n < run.0)
    → nat_le run.0 n && nat_le n run.1 ≡ false
outside run n (inl past) = and_right _ _ (lt-leb n run.1 past)
outside run n (inr before) = and_left _ _ (lt-leb run.0 n before)

-- the halves, at a run in the middle
module _ {runs : List Run} (runs_ascend : are_ascending_runs 0 runs ≡ true) {n low high : ℕ}
    (middle : ℕ)
    (halving : Halving runs n low high)
    (l : low ≤ middle) (u : middle < high) where
  here : middle < length runs
  here = omega (arith, halving.range)

  pub right : (get_or runs middle no_run).1 < n → Halving runs n (middle + 1) high
  right ends_before =
      record {
        order = omega arith;
        range = halving.range;
        before = λ i inside. elim (cases_lt i middle) [
          | inl earlier ↦ omega (
            arith,
            later 0 runs runs_ascend i middle earlier here,
            (above 0 runs runs_ascend middle here).1,
          )
          | inr not_earlier ↦ let same : i ≡ middle = omega arith in rw same ends_before
        ];
        after = halving.after;
      }

  pub left : n < (get_or runs middle no_run).0 → Halving runs n low middle
  left begins_after =
      record {
        order = l;
        range = omega (arith, halving.range);
        before = halving.before;
        after = λ i outside within. elim (cases_lt middle i) [
          | inl is_later ↦ omega (
            arith,
            later 0 runs runs_ascend middle i is_later within,
            (above 0 runs runs_ascend middle here).1,
          )
          | inr not_later ↦ let same : i ≡ middle = omega arith in rw same begins_after
        ];
      }

  pub hit : (get_or runs middle no_run).0 ≤ n → n ≤ (get_or runs middle no_run).1
      → run_with_pointer runs n ≡ Some (get_or runs middle no_run)
  hit begins ends =
      found_at (λ all. run_with_pointer all n) (λ run. nat_le run.0 n && nat_le n run.1) Some None
      refl (λ run others. refl) runs middle no_run here
      (λ j earlier. let ended = later 0 runs runs_ascend j middle earlier here in
      outside (get_or runs j no_run) n (inl (omega arith)))
      (and_from _ _ (le-leb _ n begins) (le-leb n _ ends))

pub nothing : {runs : List Run} {n low high : ℕ} → high ≤ low → Halving runs n low high
    → run_with_pointer runs n ≡ None
nothing {runs} {n} {low} crossed halving =
    found_nowhere (λ all. run_with_pointer all n) (λ run. nat_le run.0 n && nat_le n run.1) Some
    None refl (λ run others. refl) runs no_run
    (λ j within. outside (get_or runs j no_run) n (elim (cases_lt j low) [
      | inl is_low ↦ inl (halving.before j is_low)
      | inr not_low ↦ inr (halving.after j (omega arith) within)
    ]))
