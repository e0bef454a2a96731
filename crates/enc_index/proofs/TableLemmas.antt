-- A table of code points has what the runs say, by a test that goes through both once.
use Rattle.std.proofs.Common.{◌≡◌, ℕ, zero, suc, ◌+◌, ◌-◌, ◌<◌, ◌≤◌, Bool, true, false, refl, sym, ap, ◌∙◌, subst}
use Rattle.std.proofs.Common.{cond, ◌&&◌, ◌==◌, nat_lt, List, [], ◌∷◌, get_or, length, Option, None, arith, inl, inr}
use Rattle.std.proofs.Common.{eqb-true, le-leb, lt-ltb, le-ltb}
use Rattle.std.proofs.lemmas.Bool.{cond-true, cond-false, and_parts, and_left, and_right, and_from, cases_lt, lt-leb}
use Rattle.std.proofs.lemmas.List.{get_or_past}
use Rattle.enc_index.specs.declared.table.Planes.{Planes}
use Rattle.enc_index.specs.Index.{Run, index_at, entry_character}
use Rattle.enc_index.specs.Search.{are_ascending_runs}
use Rattle.enc_index.proofs.RunSearchLemmas.{ascending_parts}

-- the table has, from a pointer on, the code points of the runs, and 0 where no run has a pointer
unfoldable pub table_ok : ℕ → List Run → List ℕ → Bool
table_ok p [] [] = true
table_ok p (r ∷ rs) [] = false
table_ok p [] (t ∷ ts) = t == 0 && table_ok (p + 1) [] ts
table_ok p (r ∷ rs) (t ∷ ts) =
    let before = t == 0 && table_ok (p + 1) (r ∷ rs) ts in
    let within = t == r.2 + (p - r.0) && table_ok (p + 1) (r ∷ rs) ts in
    let ends = t == r.2 + (p - r.0) && table_ok (p + 1) rs ts in
    let inner = cond (nat_lt p r.1) within ends in
    cond (nat_lt p r.0) before inner

-- the runs ascend, and the table has their characters
abbrev pub agrees : List Run → List ℕ → Bool
agrees runs table = are_ascending_runs 0 runs && table_ok 0 runs table

-- the first run ends at p or after it, and the others come after it
abbrev Going : ℕ → List Run → Type 0
Going p [] = Unit {0}
Going p (r ∷ rs) = (p ≤ r.1) × (r.0 ≤ r.1) × (are_ascending_runs (r.1 + 1) rs ≡ true)

ascending-going : (p : ℕ) (runs : List Run) → are_ascending_runs p runs ≡ true → Going p runs
ascending-going p [] h = tt
ascending-going p (r ∷ rs) h =
    let parts = ascending_parts p r rs h in (omega (arith, parts.0, parts.1), parts.1, parts.2)

module _ (planes : Planes) where
  pub index_at-before : (r : Run) (rs : List Run) (q : ℕ) → q < r.0
      → index_at planes (r ∷ rs) q ≡ index_at planes rs q
  index_at-before r rs q h = cond-false _ _ _ (and_left _ _ (lt-leb r.0 q h))

  pub index_at-after : (r : Run) (rs : List Run) (q : ℕ) → r.1 < q
      → index_at planes (r ∷ rs) q ≡ index_at planes rs q
  index_at-after r rs q h = cond-false _ _ _ (and_right _ _ (lt-leb q r.1 h))

  pub index_at-within : (r : Run) (rs : List Run) (q : ℕ) → r.0 ≤ q → q ≤ r.1
      → index_at planes (r ∷ rs) q ≡ entry_character planes (r.2 + (q - r.0))
  index_at-within r rs q low high =
      cond-true _ _ _ (and_from _ _ (le-leb r.0 q low) (le-leb q r.1 high))

  -- no run of an ascending list has a pointer below its first
  pub index_at-below : (low : ℕ) (rs : List Run) (q : ℕ) → are_ascending_runs low rs ≡ true
      → q < low → index_at planes rs q ≡ None
  index_at-below low [] q h lt = refl
  index_at-below low (r ∷ rs) q h lt =
      let parts = ascending_parts low r rs h in
      index_at-before r rs q (omega (arith, parts.0))
      ∙ index_at-below (r.1 + 1) rs q parts.2 (omega (arith, parts.0, parts.1))

  -- What the test of an entry says: it has the character of its pointer p, and the entries after
  -- it pass with the runs that are left, which have the characters of the pointers after p.
  record Passes (p t : ℕ) (runs : List Run) (ts : List ℕ) : Type 0 where
    has : entry_character planes t ≡ index_at planes runs p
    left : List Run
    going : Going (p + 1) left
    ok : table_ok (p + 1) left ts ≡ true
    same : (q : ℕ) → p < q → index_at planes runs q ≡ index_at planes left q

  same_entry : (t u : ℕ) → t == u ≡ true → entry_character planes t ≡ entry_character planes u
  same_entry t u h = ap (entry_character planes) (eqb-true t u h)

  passes : (p t : ℕ) (runs : List Run) (ts : List ℕ) → Going p runs
      → table_ok p runs (t ∷ ts) ≡ true → Passes p t runs ts
  unfolding table_ok
  passes p t [] ts going ok =
      let parts = and_parts _ _ ok in
      record {
        has = same_entry t 0 parts.0;
        left = [];
        going = tt;
        ok = parts.1;
        same = λ q l. refl;
      }
  passes p t (r ∷ rs) ts going ok = elim (cases_lt p r.0) [
    | inl before ↦
        let parts = and_parts _ _ (sym (cond-true _ _ _ (lt-ltb p r.0 before)) ∙ ok) in
        record {
          has = same_entry t 0 parts.0
              ∙ sym (index_at-before r rs p before
              ∙ index_at-below (r.1 + 1) rs p going.2 (omega (arith, going.1)));
          left = r ∷ rs;
          going = (omega (arith, going.1), going.1, going.2);
          ok = parts.1;
          same = λ q l. refl;
        }
    | inr from ↦
        let from_on = sym (cond-false _ _ _ (le-ltb p r.0 from)) ∙ ok in
        elim (cases_lt p r.1) [
          | inl within ↦
              let parts = and_parts _ _ (sym (cond-true _ _ _ (lt-ltb p r.1 within)) ∙ from_on) in
              record {
                has = same_entry t _ parts.0 ∙ sym (index_at-within r rs p from going.0);
                left = r ∷ rs;
                going = (omega arith, going.1, going.2);
                ok = parts.1;
                same = λ q l. refl;
              }
          | inr ends ↦
              let last : r.1 ≡ p = omega (arith, going.0) in
              let parts = and_parts _ _ (sym (cond-false _ _ _ (le-ltb p r.1 ends)) ∙ from_on) in
              record {
                has = same_entry t _ parts.0 ∙ sym (index_at-within r rs p from going.0);
                left = rs;
                going = ascending-going (p + 1) rs
                    (subst (λ k. are_ascending_runs (k + 1) rs ≡ true) last going.2);
                ok = parts.1;
                same = λ q l. index_at-after r rs q (omega arith);
              }
        ]
  ]

  entry_character-index_at : (ts : List ℕ) (p : ℕ) (runs : List Run) → Going p runs
      → table_ok p runs ts ≡ true → (i q : ℕ) → q ≡ p + i
      → entry_character planes (get_or ts i 0) ≡ index_at planes runs q
  unfolding table_ok
  entry_character-index_at [] p [] going ok i q is_pointer = refl
  entry_character-index_at [] p (r ∷ rs) going ok i q is_pointer = cc
  entry_character-index_at (t ∷ ts) p runs going ok zero q is_pointer =
      let here : p ≡ q = omega arith in
      (passes p t runs ts going ok).has ∙ ap (index_at planes runs) here
  entry_character-index_at (t ∷ ts) p runs going ok (suc i) q is_pointer =
      let first = passes p t runs ts going ok in
      entry_character-index_at ts (p + 1) first.left first.going first.ok i q (omega arith)
      ∙ sym (first.same q (omega arith))

  -- a table that passes has the characters of the runs
  pub agrees-true : (runs : List Run) (table : List ℕ) → agrees runs table ≡ true
      → (p : ℕ) → entry_character planes (get_or table p 0) ≡ index_at planes runs p
  agrees-true runs table ok p =
      let parts = and_parts _ _ ok in
      entry_character-index_at table 0 runs (ascending-going 0 runs parts.0) parts.1 p p
      (omega arith)

-- past the end of a table no pointer has a character
pub entry_character-past : (planes : Planes) (ts : List ℕ) (character : Option ℕ) (p : ℕ)
    → entry_character planes (get_or ts p 0) ≡ character
    → length ts ≤ p
    → character ≡ None
entry_character-past planes ts character p e l =
    sym e ∙ ap (entry_character planes) (get_or_past ts p 0 l)
