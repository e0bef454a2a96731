-- From a line of a header to the next one.
use Rattle.std.proofs.Common.{◌≡◌, ◌+◌, zero, suc, false, List, ℕ, [], ◌∷◌, length, drop, None}
use Rattle.std.proofs.Common.{refl, sym, inl, inr, arith}
use Rattle.std.specs.Prelude.{◌==◌}
use Rattle.std.specs.List.{prefix_len}
use Rattle.std.proofs.lemmas.Bool.{cases_Bool}
use Rattle.enc_sniff.specs.Positions.{past, is_not, begins_in_either_case}
use Rattle.enc_sniff.specs.HeaderFields.{body_at_line, is_empty_line, later_field, first_field}

nothing_left : (n : ℕ) → drop {A = ℕ} n [] ≡ []
nothing_left zero = refl
nothing_left (suc n) = refl

no_body : (name : List ℕ) → body_at_line name [] ≡ None
no_body name = elim (cases_Bool (begins_in_either_case [] name)) [
  | inl begins ↦ rw (begins, nothing_left (length name)) refl
  | inr other ↦ rw other refl
]

-- no field is in no line
pub no_line : (name s : List ℕ) → length s ≡ 0 → None ≡ first_field name s
no_line name [] none = rw (no_body name) refl
no_line name (b ∷ s) none = absurd (omega arith)

-- the lines after this one are those from its line feed on
later_lines :
    (name s : List ℕ) → later_field name s ≡ first_field name (drop 1 (past (is_not 0x0A) s))
later_lines name [] = rw (no_body name) refl
later_lines name (b ∷ s) = elim (cases_Bool (b == 0x0A)) [
  | inl is_end ↦ rw is_end refl
  | inr is_other ↦
      (let more : 1 + prefix_len (is_not 0x0A) s ≡ suc (prefix_len (is_not 0x0A) s) = omega arith in
      rw (is_other, more) (later_lines name s))
]

-- a line that is not empty, and begins no field of this name, is passed
pub next_line :
    (name s : List ℕ) → is_empty_line s ≡ false → body_at_line name s ≡ None
    → first_field name (drop 1 (past (is_not 0x0A) s)) ≡ first_field name s
next_line name s filled other = rw (filled, other) (sym (later_lines name s))
