-- Index gb18030 ranges by code point.
use Rattle.std.proofs.Common.{◌≡◌, ℕ, ◌+◌, ◌-◌, ◌<◌, ◌≤◌, Bool, true, false, sym, ap, ◌∙◌, subst, cond, ◌&&◌}
use Rattle.std.proofs.Common.{◌||◌, ◌==◌, nat_lt, nat_le, List, [], ◌∷◌, Option, Some, None, arith, inl, inr, le-leb}
use Rattle.std.proofs.lemmas.Bool.{cond-true, cond-false, cases_Bool, and_parts, and_from, leb-true, true≢false}
use Rattle.std.proofs.lemmas.Bool.Decides.{nat_tests}
use Rattle.enc_index.specs.declared.table.Planes.TheVariants.{All}
use Rattle.enc_index.specs.Index.{Run, entry_character, is_entry_code_point, index_at}
use Rattle.enc_index.specs.Search.{are_ascending_runs, run_with_pointer}
use Rattle.enc_index_pointers.specs.Pointers.{is_ranges_pointer}
use Rattle.enc_index.proofs.RunSearchLemmas.{ascending_parts, outside}
use Rattle.enc_index.proofs.PlaceLemmas.{same_some, some_of_cond}
use Rattle.enc_index.proofs.TableLemmas.{index_at-after, index_at-within}

-- a run the other way: first code point, last code point, and the pointer of the first
abbrev pub turned : Run → Run
turned run = (run.2, run.2 + (run.1 - run.0), run.0)

-- the runs by code point, without that of the pointer 7457
unfoldable pub by_code_point : List Run → List Run
by_code_point [] = []
by_code_point (run ∷ runs) =
    let rest = by_code_point runs in
    cond (run.0 == 7457) rest (turned run ∷ rest)

-- Whether each code point of a run is one that an entry can have, and its pointers either all count
-- and are below 1237576, or are 7457 alone.
unfoldable pub is_range : Run → Bool
is_range run =
    (nat_lt 0 run.2 &&
    (nat_lt (run.2 + (run.1 - run.0)) 0xD800 ||
    (nat_le 0xE000 run.2 && nat_le (run.2 + (run.1 - run.0)) 0x10FFFF)))
    && ((run.0 == 7457 && run.1 == 7457)
    || ((nat_lt run.1 7457 || nat_lt 7457 run.0) &&
    ((nat_le run.1 39419 || nat_le 189000 run.0) && nat_lt run.1 1237576)))

unfoldable pub are_ranges : List Run → Bool
are_ranges [] = true
are_ranges (run ∷ runs) = is_range run && are_ranges runs

-- consequences of the test, for a run of the pointers from a to b whose first code point is v
module _ (a b v : ℕ) (h : is_range (a, b, v) ≡ true) where
  is_entry : (c : ℕ) → v ≤ c → c ≤ v + (b - a) → is_entry_code_point All c ≡ true
  unfolding is_range
  is_entry c from to = grind (arith, nat_tests)

  counts : (a == 7457) ≡ false → (q : ℕ) → a ≤ q → q ≤ b → is_ranges_pointer q ≡ true
  unfolding is_range
  counts other q from to = grind (arith, nat_tests)

  is_below : (a == 7457) ≡ false → (q : ℕ) → q ≤ b → q < 1237576
  unfolding is_range
  is_below other q to = grind (arith, nat_tests)

  is_alone : (a == 7457) ≡ true → (q : ℕ) → a ≤ q → q ≤ b → is_ranges_pointer q ≡ false
  unfolding is_range
  is_alone same q from to = grind (arith, nat_tests)

-- q is a pointer of the character c: it counts, its entry is c, and it lies below 1237576, and from
-- `low_pointer` on. The induction needs this: a pointer of a later run lies after the first run.
pub record IsPointerOf (runs : List Run) (c q low_pointer : ℕ) : Type 0 where
  pub is_counted : is_ranges_pointer q ≡ true
  pub has : index_at All runs q ≡ Some c
  pub below : q < 1237576
  pub from : low_pointer ≤ q

module _ (low : ℕ) (run : Run) (runs : List Run) (c : ℕ)
    (up : are_ascending_runs low (run ∷ runs) ≡ true)
    (ok : is_range run ≡ true) where
  first_is_pointer : (run.0 == 7457) ≡ false → run.2 ≤ c → c ≤ run.2 + (run.1 - run.0)
      → IsPointerOf (run ∷ runs) c (run.0 + (c - run.2)) low
  first_is_pointer other begins ends =
      let parts = ascending_parts low run runs up in
      let high : run.0 + (c - run.2) ≤ run.1 = omega (arith, parts.1) in
      let from : run.0 ≤ run.0 + (c - run.2) = omega arith in
      let same : run.2 + (run.0 + (c - run.2) - run.0) ≡ c = omega arith in
      record {
        is_counted = counts run.0 run.1 run.2 ok other (run.0 + (c - run.2)) from high;
        has =
            index_at-within All run runs (run.0 + (c - run.2)) from high
            ∙ ap (entry_character All) same
            ∙ cond-true _ _ _ (is_entry run.0 run.1 run.2 ok c begins ends);
        below = is_below run.0 run.1 run.2 ok other (run.0 + (c - run.2)) high;
        from = omega (arith, parts.0);
      }

  later_is_pointer : (q : ℕ) → IsPointerOf runs c q (run.1 + 1) → IsPointerOf (run ∷ runs) c q low
  later_is_pointer q is_later =
      let parts = ascending_parts low run runs up in
      let past : run.1 < q = omega (arith, is_later.from) in
      record {
        is_counted = is_later.is_counted;
        has = index_at-after All run runs q past ∙ is_later.has;
        below = is_later.below;
        from = omega (arith, parts.0, parts.1, past);
      }

-- the pointer in a run that is found by code point is one of the character
pub sound : (low : ℕ) (runs : List Run) (c : ℕ) (found : Run) → are_ascending_runs low runs ≡ true
    → are_ranges runs ≡ true
    → run_with_pointer (by_code_point runs) c ≡ Some found
    → IsPointerOf runs c (found.2 + (c - found.0)) low
unfolding by_code_point are_ranges
sound low [] c found up ok is_found = cc
sound low (run ∷ runs) c found up ok is_found =
    let tests = and_parts _ _ ok in
    let rest_ascends = (ascending_parts low run runs up).2 in
    let in_rest = λ (is_in_rest : run_with_pointer (by_code_point runs) c ≡ Some found).
    later_is_pointer low run runs c up tests.0 (found.2 + (c - found.0))
    (sound (run.1 + 1) runs c found rest_ascends tests.1 is_in_rest) in
    elim (cases_Bool (run.0 == 7457)) [
      | inl alone ↦ in_rest (rw alone at is_found)
      | inr other ↦
          let is_in_turned = rw other at is_found in
          elim (cases_Bool (nat_le run.2 c && nat_le c (run.2 + (run.1 - run.0)))) [
            | inl inside ↦
                let here : Some (turned run) ≡ Some found = rw inside at is_in_turned in
                let same : turned run ≡ found = cc in
                let bounds = and_parts _ _ inside in
                subst (λ r. IsPointerOf (run ∷ runs) c (r.2 + (c - r.0)) low) same
                (first_is_pointer low run runs c up tests.0 other (leb-true _ _ bounds.0)
                (leb-true _ _ bounds.1))
            | inr past ↦ in_rest (rw past at is_in_turned)
          ]
    ]

-- the pointer of a character in a run by code point
abbrev pub pointer_in_run : ℕ → Option Run → Option ℕ
pointer_in_run c None = None
pointer_in_run c (Some run) = Some (run.2 + (c - run.0))

-- In runs by code point, the search for c gives the pointer q, and c is at least `low_char`. The
-- induction needs this: a character of a later run lies after the first run.
abbrev IsFound : List Run → ℕ → ℕ → ℕ → Type 0
IsFound runs c q low_char =
    (pointer_in_run c (run_with_pointer runs c) ≡ Some q) × (low_char ≤ c)

module _ (low : ℕ) (run : Run) (rest : List Run) (c q : ℕ)
    (up : are_ascending_runs low (turned run ∷ rest) ≡ true) where
  first_is_found : run.0 ≤ q → q ≤ run.1 → run.2 + (q - run.0) ≡ c
      → IsFound (turned run ∷ rest) c q low
  first_is_found from to has_code_point =
      let begins : run.2 ≤ c = omega arith in
      let ends : c ≤ run.2 + (run.1 - run.0) = omega arith in
      let same : run.0 + (c - run.2) ≡ q = omega arith in
      let inside = and_from _ _ (le-leb run.2 c begins) (le-leb c _ ends) in
      let parts = ascending_parts low (turned run) rest up in (
        ap (pointer_in_run c) (cond-true _ _ _ inside) ∙ ap Some same,
        omega (arith, parts.0),
      )

  later_is_found : IsFound rest c q (run.2 + (run.1 - run.0) + 1)
      → IsFound (turned run ∷ rest) c q low
  later_is_found is_later =
      let parts = ascending_parts low (turned run) rest up in
      let past : run.2 + (run.1 - run.0) < c = omega (arith, is_later.1) in (
        ap (pointer_in_run c) (cond-false _ _ _ (outside (turned run) c (inl past))) ∙ is_later.0,
        omega (arith, parts.0, parts.1, past),
      )

-- a pointer that counts is found by the code point of its character
pub complete : (low : ℕ) (runs : List Run) (c q : ℕ)
    → are_ascending_runs low (by_code_point runs) ≡ true → are_ranges runs ≡ true
    → is_ranges_pointer q ≡ true → index_at All runs q ≡ Some c
    → IsFound (by_code_point runs) c q low
unfolding by_code_point are_ranges
complete low [] c q up ok counted has_char = cc
complete low (run ∷ runs) c q up ok counted has_char =
    let tests = and_parts _ _ ok in
    elim (cases_Bool (nat_le run.0 q && nat_le q run.1)) [
      | inl inside ↦
          let bounds = and_parts _ _ inside in
          let from = leb-true run.0 q bounds.0 in
          let to = leb-true q run.1 bounds.1 in
          elim (cases_Bool (run.0 == 7457)) [
            -- 7457 doesn't count
            | inl alone ↦ absurd (true≢false
                (sym counted ∙ is_alone run.0 run.1 run.2 tests.0 alone q from to))
            | inr other ↦
                let entry = some_of_cond _ _ _ (rw inside at has_char) in
                rw other (first_is_found low run (by_code_point runs) c q (rw other at up) from to
                (same_some _ _ entry.1))
          ]
      | inr past ↦
          let has_it = rw past at has_char in
          elim (cases_Bool (run.0 == 7457)) [
            | inl alone ↦
                rw alone (complete low runs c q (rw alone at up) tests.1 counted has_it)
            | inr other ↦
                let ascends = rw other at up in
                rw other (later_is_found low run (by_code_point runs) c q ascends
                (complete (run.2 + (run.1 - run.0) + 1) runs c q
                (ascending_parts low (turned run) (by_code_point runs) ascends).2 tests.1 counted
                has_it))
          ]
    ]
