-- The places of two bytes in the grids have their characters.
use Rattle.std.proofs.Common.{◌≡◌, ◌∙◌, ℕ, ◌+◌, ◌*◌, ◌<◌, ◌≤◌, Bool, true, false, cond, Option, Some, None, refl}
use Rattle.std.proofs.Common.{ap, sym, arith, inl, inr, nat_lt}
use Rattle.std.proofs.lemmas.Bool.{cond-true, cases_lt, ltb-true}
use Rattle.std.proofs.Math.Nat.{mul-le-mul_right}
use Rattle.enc_index.specs.Grid.{Shape, HasNoMore, IsPlaceOf, pointer_char, grid_char}
use Rattle.enc_index.proofs.GridLemmas.{grid_char-of_place}

pub same_some : (b c : ℕ) → Some b ≡ Some c → b ≡ c
same_some b c e = cc

-- a choice that is there was taken
pub some_of_cond : (t : Bool) (o : Option ℕ) (c : ℕ) → cond t o None ≡ Some c
    → (t ≡ true) × (o ≡ Some c)
some_of_cond true o c h = (refl, h)
some_of_cond false o c h = cc

pub some_none : (A : Option ℕ) (c : ℕ) → A ≡ None → A ≡ Some c → ⊥
some_none A c e f = cc

-- which case of a choice it is, by a bound that the other passes
pub below : (t : Bool) (x most : ℕ) → cond t x most < most → t ≡ true
below true x most h = refl
below false x most h = absurd (omega arith)

at_most : (t : Bool) (x most : ℕ) → (t ≡ true → x < most) → cond t x most ≤ most
at_most true x most h = omega (arith, h refl)
at_most false x most h = omega arith

-- at a row and a column there is the character of their pointer
pub record Stands (shape : Shape) (row column c : ℕ) : Type 0 where
  pub in_rows : row < shape.rows
  pub in_columns : column < shape.width
  pub is : pointer_char shape (row * shape.width + column) ≡ Some c

module _ (shape : Shape) (no_more : HasNoMore shape) where
  stands : (row column c : ℕ) → column ≤ shape.width
      → grid_char shape (256 + row * (shape.width + 1) + column) ≡ Some c
      → Stands shape row column c
  stands row column c l has_char =
      let there = some_of_cond (nat_lt column shape.width)
      (pointer_char shape (row * shape.width + column)) c
      (sym (grid_char-of_place shape row column l) ∙ has_char) in
      record {
        in_rows = elim (cases_lt row shape.rows) [
          | inl within ↦ within
          | inr past ↦
              let after_rows = mul-le-mul_right shape.width past in
              let none = no_more (row * shape.width + column) (omega (arith, after_rows)) in
              absurd (some_none _ c none there.1)
        ];
        in_columns = ltb-true column shape.width there.0;
        is = there.1;
      }

  -- The place at a row and a column. Each may be one after the last, and a row two.
  pub place_at : {P : ℕ → Type 0} (row column : ℕ) {place : ℕ}
      → place ≡ 256 + row * (shape.width + 1) + column
      → row < shape.rows + 2
      → column ≤ shape.width
      → ((c : ℕ) → Stands shape row column c → P c)
      → IsPlaceOf shape P place
  place_at row column {place} is few small means =
      let rows_before : row * (shape.width + 1) ≤ (shape.rows + 1) * (shape.width + 1) =
      mul-le-mul_right (shape.width + 1) (omega arith) in
      record {
        within = omega (arith, is, rows_before);
        char = λ c e. means c (stands row column c small (ap (grid_char shape) (sym is) ∙ e));
      }

  -- the place of two bytes whose lead has the row x, if it leads, and whose trail the column y
  pub pair_place : {P : ℕ → Type 0} (leads trails : Bool) (x y : ℕ) {row column place : ℕ}
      → row ≡ cond leads x shape.rows
      → column ≡ cond trails y shape.width
      → place ≡ 256 + row * (shape.width + 1) + column
      → (leads ≡ true → x < shape.rows)
      → (trails ≡ true → y < shape.width)
      → ((c : ℕ) → leads ≡ true → trails ≡ true
      → pointer_char shape (x * shape.width + y) ≡ Some c → P c)
      → IsPlaceOf shape P place
  pair_place leads trails x y {row} {column} row_is column_is place_is few small means =
      place_at row column place_is (omega (arith, row_is, at_most leads x shape.rows few))
      (omega (arith, column_is, at_most trails y shape.width small))
      (λ c at.
      let lead = below leads x shape.rows (omega (arith, row_is, at.in_rows)) in
      let trail = below trails y shape.width (omega (arith, column_is, at.in_columns)) in
      let row_of_lead : row ≡ x = row_is ∙ cond-true leads x shape.rows lead in
      let column_of_trail : column ≡ y = column_is ∙ cond-true trails y shape.width trail in
      means c lead trail (rw (row_of_lead, column_of_trail) at at.is))

-- places of a property are places of one that follows from it
pub places_of : {shape : Shape} {P Q : ℕ → Type 0} {place : ℕ} → IsPlaceOf shape P place
    → ((c : ℕ) → P c → Q c)
    → IsPlaceOf shape Q place
places_of at h = record { within = at.within; char = λ c e. h c (at.char c e) }
