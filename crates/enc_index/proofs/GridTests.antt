-- A grid fits the table of its index, by a test that goes through both once.
use Rattle.std.proofs.Common.{◌≡◌, ℕ, zero, suc, ◌+◌, ◌*◌, ◌<◌, ◌≤◌, Bool, true, false, refl, sym, ap, ◌∙◌, subst, ◌&&◌}
use Rattle.std.proofs.Common.{◌||◌, ◌==◌, nat_lt, List, [], ◌∷◌, get_or, length, take, drop, Option, Some, arith}
use Rattle.std.proofs.Common.{eqb-true}
use Rattle.std.proofs.lemmas.Bool.{true≢false, ne_eqb, ltb-true, cond-true, and_parts}
use Rattle.std.proofs.lemmas.List.{get_or-drop, get_or-take}
use Rattle.std.proofs.Math.Nat.{suc-mul}
use Rattle.enc_index.specs.declared.table.Planes.{Planes}
use Rattle.enc_index.specs.Index.{entry_character, is_entry_code_point}

pub or_last : (x y : Bool) → x ≡ false → (x || y) ≡ true → y ≡ true
or_last true y e h = absurd (true≢false e)
or_last false y e h = h

after_drop : (n i j : ℕ) (xs : List ℕ) → j ≡ n + i → get_or (drop n xs) i 0 ≡ get_or xs j 0
after_drop n i j xs e = get_or-drop n xs i 0 ∙ ap (λ k. get_or xs k 0) (sym e)

-- an entry that is not 0 lies within its list
pub within_list : (xs : List ℕ) (i : ℕ) → 0 < get_or xs i 0 → i < length xs
within_list [] i some = absurd (omega arith)
within_list (x ∷ xs) zero some = omega arith
within_list (x ∷ xs) (suc i) some = omega (arith, within_list xs i some)

-- each number of the list passes, with its place from p on
unfoldable pub all_at : (ℕ → ℕ → Bool) → ℕ → List ℕ → Bool
all_at test p [] = true
all_at test p (t ∷ ts) = test p t && all_at test (p + 1) ts

pub all_at-at : (test : ℕ → ℕ → Bool) (d p : ℕ) (ts : List ℕ) (i q : ℕ) → all_at test p ts ≡ true
    → i < length ts → q ≡ p + i → test q (get_or ts i d) ≡ true
unfolding all_at
all_at-at test d p [] i q all_pass within is_place = absurd (omega arith)
all_at-at test d p (t ∷ ts) zero q all_pass within is_place =
    let here : p ≡ q = omega arith in
    subst (λ k. test k t ≡ true) here (and_parts _ _ all_pass).0
all_at-at test d p (t ∷ ts) (suc i) q all_pass within is_place =
    all_at-at test d (p + 1) ts i q (and_parts _ _ all_pass).1 (omega arith) (omega arith)

-- `fits t g`: the entry g fits a place whose pointer has the code point t
module _ (fits : ℕ → ℕ → Bool) (width : ℕ) where
  -- The entries of rows fit the table, past which it counts as 0, and those in the last column are
  -- 0. `left` counts the columns that are left in the row.
  unfoldable pub rows_ok : List ℕ → ℕ → List ℕ → Bool
  rows_ok [] left ts = true
  rows_ok (g ∷ gs) zero ts = g == 0 && rows_ok gs width ts
  rows_ok (g ∷ gs) (suc left) ts = fits (get_or ts 0 0) g && rows_ok gs left (drop 1 ts)

  -- An entry that is not 0 has a pointer, which it fits. Its place i is p and the r last columns of
  -- the rows before it, and p is its pointer, both counted from where the test is.
  rows_ok-at : (gs : List ℕ) (left : ℕ) (ts : List ℕ) (i p r c : ℕ) → rows_ok gs left ts ≡ true
      → i ≡ p + r → p + width ≡ r * width + c + left → c ≤ width → 0 < get_or gs i 0
      → (c < width) × (fits (get_or ts p 0) (get_or gs i 0) ≡ true)
  unfolding rows_ok
  rows_ok-at [] left ts i p r c ok is_place is_pointer l some = absurd (omega arith)
  rows_ok-at (g ∷ gs) zero ts zero p r c ok is_place is_pointer l some =
      absurd (omega (arith, eqb-true g 0 (and_parts _ _ ok).0))
  rows_ok-at (g ∷ gs) zero ts (suc i) p zero c ok is_place is_pointer l some = absurd (omega arith)
  rows_ok-at (g ∷ gs) zero ts (suc i) p (suc r) c ok is_place is_pointer l some =
      rows_ok-at gs width ts i p r c (and_parts _ _ ok).1 (omega arith)
      (omega (arith, suc-mul r width)) l some
  rows_ok-at (g ∷ gs) (suc left) ts zero p r c ok is_place is_pointer l some =
      let first_pointer : p ≡ 0 = omega arith in
      let first_row : r ≡ 0 = omega arith in
      (omega (arith, ap (λ k. k * width) first_row), rw first_pointer (and_parts _ _ ok).0)
  rows_ok-at (g ∷ gs) (suc left) ts (suc i) zero r c ok is_place is_pointer l some =
      let all_last : r ≡ suc i = omega arith in
      absurd (omega (arith, ap (λ k. k * width) all_last, suc-mul i width))
  rows_ok-at (g ∷ gs) (suc left) ts (suc i) (suc p) r c ok is_place is_pointer l some =
      rw (sym (after_drop 1 p (suc p) ts (omega arith)))
      (rows_ok-at gs left (drop 1 ts) i p r c (and_parts _ _ ok).1 (omega arith) (omega arith) l
      some)

module _ (kind : ℕ → ℕ → Bool) where
  -- an entry fits the code point of a pointer, and one of the first 256 fits its byte
  unfoldable pub entry_ok : Planes → ℕ → ℕ → Bool
  entry_ok planes t g = g == 0 || (is_entry_code_point planes t && kind t g)

  unfoldable pub byte_ok : ℕ → ℕ → Bool
  byte_ok b g = g == 0 || (nat_lt b 128 && kind b g)

  -- the entries of the first places fit their bytes, and those after them the rows of the table
  unfoldable pub places_ok : Planes → ℕ → List ℕ → ℕ → List ℕ → Bool
  places_ok planes width ts bytes gs =
      all_at byte_ok 0 (take bytes gs) && rows_ok (entry_ok planes) width (drop bytes gs) width ts

  -- there is a character, and the entry is right for it
  abbrev pub Found : Option ℕ → ℕ → Type 0
  Found character g = (t : ℕ) × (character ≡ Some t) × (kind t g ≡ true)

  -- what a test of an entry says, if the entry is not 0
  passed : (first second : Bool) (g : ℕ) → (g == 0 || (first && second)) ≡ true → 0 < g
      → (first ≡ true) × (second ≡ true)
  passed first second g ok some =
      and_parts first second (or_last (g == 0) _ (ne_eqb g 0 (λ e. omega arith)) ok)

  module _ (planes : Planes) (width : ℕ) (ts : List ℕ) (bytes : ℕ) (gs : List ℕ)
      (ok : places_ok planes width ts bytes gs ≡ true) where
    pub byte_entry : (b : ℕ) → b < bytes → 0 < get_or gs b 0
        → (b < 128) × (kind b (get_or gs b 0) ≡ true)
    unfolding places_ok byte_ok
    byte_entry b l some =
        let front = get_or-take bytes gs b 0 l in
        let in_front = within_list (take bytes gs) b (rw front some) in
        let fits = all_at-at byte_ok 0 0 (take bytes gs) b b (and_parts _ _ ok).0 in_front
        (omega arith) in
        let both = passed _ _ (get_or gs b 0) (rw front at fits) some in
        (ltb-true b 128 both.0, both.1)

    pub row_entry : (r c place : ℕ) → c ≤ width → place ≡ bytes + (r * width + r + c)
        → 0 < get_or gs place 0
        → (c < width) × Found (entry_character planes (get_or ts (r * width + c) 0))
        (get_or gs place 0)
    unfolding places_ok entry_ok
    row_entry r c place l is_place some =
        let pointer = r * width + c in
        let here = after_drop bytes (pointer + r) place gs (omega arith) in
        let fits = rows_ok-at (entry_ok planes) width (drop bytes gs) width ts (pointer + r)
        pointer r c (and_parts _ _ ok).1 refl (omega arith) l (rw here some) in
        let both = passed _ _ (get_or gs place 0) (rw here at fits.1) some in
        (fits.0, (get_or ts pointer 0, cond-true _ _ _ both.0, both.1))
