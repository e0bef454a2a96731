-- Sixteen bytes and the code units that they give, in lanes.
use Rattle.std.proofs.Common.{◌≡◌, ℕ, ◌+◌, ◌-◌, ◌*◌, ◌/◌, ◌%◌, ◌^◌, ◌<◌, ◌≤◌, true, cond, leb, ltb, inl, inr, bit_and}
use Rattle.std.proofs.Common.{ap, ◌∙◌, arith}
use Rattle.std.proofs.lemmas.Bool.{cases_lt}
use Rattle.std.proofs.lemmas.Bool.Decides.{nat_tests}
use Rattle.std.proofs.lemmas.Nat.{and_mask}
use Rattle.enc_output.specs.Utf8Units.{gives_unit, code_unit_of_byte}
use Rattle.enc_utf8.proofs.ByteLanes.{add16, times16, pair, two, three}

-- the code units of characters of at most three bytes, and those of four

abbrev narrow : ℕ → ℕ → ℕ → ℕ
narrow a b c = cond (ltb a 0x80) a (cond (leb 0xE0 a) (three a b c) (two a b))

abbrev low : ℕ → ℕ → ℕ
low a b = add16 (bit_and (add16 (pair a b) 0xFF80) 0x3FF) 0xDC00

abbrev four : ℕ → ℕ → ℕ → ℕ
four a b c = add16 (add16 (times16 (pair a b) 4) (c / 2 ^ 4)) 0xE5B8

abbrev any_unit : ℕ → ℕ → ℕ → ℕ
any_unit a b c =
    cond (leb 0xF0 a) (four a b c)
    (cond (leb 0xE0 a) (three a b c) (cond (leb 0xC0 a) (two a b) (cond (ltb a 0x80) a (low a b))))

pub narrow_unit : (a b c : ℕ) → a < 0xF0 → b < 0x100 → c < 0x100 → gives_unit 0 a ≡ true
    → narrow a b c ≡ code_unit_of_byte a b c
narrow_unit a b c first_fits second_fits third_fits gives = grind (arith, nat_tests)

low_is : (a b : ℕ) → 0x80 ≤ a → a < 0xC0 → b < 0x100
    → low a b ≡ (a * 0x40 + b - 0x80) % 0x400 + 0xDC00
low_is a b from below second_fits =
    ap (λ x. add16 x 0xDC00) (and_mask (add16 (pair a b) 0xFF80) 10) ∙ omega arith

pub all_units_are : (a b c : ℕ) → a < 0x100 → b < 0x100 → c < 0x100
    → any_unit a b c ≡ code_unit_of_byte a b c
all_units_are a b c first_fits second_fits third_fits = elim (cases_lt a 0x80) [
  | inl is_ascii ↦ grind (arith, nat_tests)
  | inr from ↦ elim (cases_lt a 0xC0) [
    | inl below ↦
        let second_is_low = low_is a b from below second_fits in
        grind (arith, nat_tests, second_is_low)
    | inr is_lead ↦ grind (arith, nat_tests)
  ]
]
