-- Where the characters of a grid stand, and that a grid that fits the table of its index has them
-- there.
use Rattle.std.proofs.Common.{◌≡◌, ℕ, ◌+◌, ◌-◌, ◌*◌, ◌/◌, ◌%◌, ◌<◌, ◌≤◌, Bool, true, sym, ap, ◌∙◌, cond}
use Rattle.std.proofs.Common.{nat_lt, refl, List, get_or, None, Some, arith, inl, inr, lt-ltb, le-ltb}
use Rattle.std.proofs.lemmas.Bool.{cond-true, cond-false, cases_lt}
use Rattle.std.proofs.lemmas.Nat.{div-mul-add, mod-mul-add, div-add-mod'}
use Rattle.std.proofs.Math.Nat.{mod-lt, mul-add}
use Rattle.enc_index.specs.Grid.{Shape, pointer_char, cell_char, grid_char}
use Rattle.enc_index.specs.Index.{entry_character}
use Rattle.enc_index.proofs.GridTests.{places_ok, Found, byte_entry, row_entry}

-- where the characters of a grid stand
module _ (shape : Shape) where
  -- the character of a single byte: an ASCII byte, or none
  pub grid_char-of_ascii : (b : ℕ) → b < 128 → grid_char shape b ≡ Some b
  unfolding grid_char
  grid_char-of_ascii b l = cond-true _ _ _ (lt-ltb b 128 l)

  grid_char-of_cell : (cell place : ℕ) → place ≡ 256 + cell
      → grid_char shape place ≡ cell_char shape cell
  unfolding grid_char
  grid_char-of_cell cell place e =
      cond-false _ _ _ (le-ltb place 128 (omega arith))
      ∙ cond-false _ _ _ (le-ltb place 256 (omega arith))
      ∙ ap (cell_char shape) (omega arith)

  -- the character at a row and a column, none in the last one
  pub grid_char-of_place : (r c : ℕ) → c ≤ shape.width
      → grid_char shape (256 + r * (shape.width + 1) + c)
      ≡ cond (nat_lt c shape.width) (pointer_char shape (r * shape.width + c)) None
  grid_char-of_place r c l =
      let row = div-mul-add r (shape.width + 1) c (omega arith) in
      let column = mod-mul-add r (shape.width + 1) c (omega arith) in
      grid_char-of_cell (r * (shape.width + 1) + c) _ (omega arith) ∙ rw (row, column) refl

-- the test of a grid, by the table of its index
abbrev pub grid_ok : (ℕ → ℕ → Bool) → Shape → List ℕ → List ℕ → Bool
grid_ok kind shape ts gs = places_ok kind shape.planes shape.width ts 256 gs

-- a grid that passes has the characters of the index
module _ (kind : ℕ → ℕ → Bool) (shape : Shape) (ts gs : List ℕ)
    (table : (p : ℕ) → entry_character shape.planes (get_or ts p 0)
    ≡ pointer_char shape p)
    (ok : grid_ok kind shape ts gs ≡ true) where
  pub found : (place : ℕ) → 0 < get_or gs place 0
      → Found kind (grid_char shape place) (get_or gs place 0)
  found place some =
      elim (cases_lt place 256) [
        | inl l ↦
            let entry = byte_entry kind shape.planes shape.width ts 256 gs ok place l some in
            (place, grid_char-of_ascii shape place entry.0, entry.1)
        | inr h ↦
            let cell : ℕ = place - 256 in
            let row : ℕ = cell / (shape.width + 1) in
            let column : ℕ = cell % (shape.width + 1) in
            let in_row : column < shape.width + 1 =
            mod-lt cell {m = shape.width + 1} (omega arith) in
            let split = div-add-mod' cell (shape.width + 1) in
            let entry = row_entry kind shape.planes shape.width ts 256 gs ok row column place
            (omega arith) (omega (arith, split, mul-add row shape.width 1)) some in
            let char = grid_char-of_cell shape cell place (omega arith)
            ∙ cond-true _ _ _ (lt-ltb column shape.width entry.0)
            ∙ sym (table (row * shape.width + column)) in
            (entry.1.0, char ∙ entry.1.1, entry.1.2)
      ]
