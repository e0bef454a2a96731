-- Hexadecimal digits, written from the last to the first.
use Rattle.std.proofs.Common.{◌≡◌, ℕ, zero, suc, ◌-◌, ◌/◌, ◌%◌, ◌^◌, ◌<◌, ◌≤◌, ◌==◌, true, false, List}
use Rattle.std.proofs.Common.{[], ◌∷◌, ◌++◌}
use Rattle.std.proofs.Common.{length, drop, set, refl, ap, ◌∙◌, sym, arith, length-set, if◌then◌else◌}
use Rattle.std.specs.Fmt.{digits, digits_onto, digit_glyph}
use Rattle.std.proofs.lemmas.Bool.Decides.{nat_tests}
use Rattle.enc_encoder.proofs.ReferenceLemmas.{put_before}

-- a place less is taken by a number without its last digit
pub hex_places_fewer : (k n : ℕ) → 16 ≤ n → n < 16 ^ k → (2 ≤ k) × (n / 16 < 16 ^ (k - 1))
hex_places_fewer zero n h small = absurd (omega arith)
hex_places_fewer (suc zero) n h small = absurd (omega arith)
hex_places_fewer (suc (suc j)) n h small =
    let left : suc (suc j) - 1 ≡ suc j = omega arith in
    (omega arith, rw left (omega arith))

-- the only digit, and the last of several
digits_onto-one : (k n : ℕ) (t : List ℕ) → 0 < k → n < 16
    → digits_onto k 16 true n t ≡ digit_glyph true n ∷ t
digits_onto-one zero n t some small = absurd (omega arith)
digits_onto-one (suc k) n t some small =
    let none : n / 16 ≡ 0 = omega arith in
    let itself : n % 16 ≡ n = omega arith in
    rw (none, itself) refl

pub digits_onto-last : (k n : ℕ) (t : List ℕ) → 0 < k → 16 ≤ n
    → digits_onto k 16 true n t
    ≡ digits_onto (k - 1) 16 true (n / 16) (digit_glyph true (n % 16) ∷ t)
digits_onto-last zero n t some large = absurd (omega arith)
digits_onto-last (suc k) n t some large =
    let more : (n / 16 == 0) ≡ false = grind (arith, nat_tests) in
    let left : k ≡ suc k - 1 = omega arith in
    rw more (ap (λ j. digits_onto j 16 true (n / 16) (digit_glyph true (n % 16) ∷ t)) left)

digits_onto-append : (k n : ℕ) (acc t : List ℕ)
    → digits_onto k 16 true n (acc ++ t) ≡ digits_onto k 16 true n acc ++ t
digits_onto-append zero n acc t = refl
digits_onto-append (suc k) n acc t = elim (n / 16 == 0) as
    (λ b. (if b then digit_glyph true (n % 16) ∷ (acc ++ t)
    else digits_onto k 16 true (n / 16) (digit_glyph true (n % 16) ∷ (acc ++ t)))
    ≡ (if b then digit_glyph true (n % 16) ∷ acc
    else digits_onto k 16 true (n / 16) (digit_glyph true (n % 16) ∷ acc)) ++ t) [
      | true ↦ refl
      | false ↦ digits_onto-append k (n / 16) (digit_glyph true (n % 16) ∷ acc) t
    ]

-- all digits before other bytes
pub hex_digits_before : (n : ℕ) (t : List ℕ) → digits_onto 64 16 true n t ≡ digits 16 true n ++ t
unfolding digits
hex_digits_before n t = digits_onto-append 64 n [] t

-- the first digit, and the bytes before it
pub hex_front : (k : ℕ) (bytes digits_left : List ℕ) (at n : ℕ) → 0 < k → 4 ≤ at
    → at ≤ length bytes → n < 16 → digits_onto k 16 true n (drop at bytes) ≡ digits_left
    → drop (at - 4)
    (set (set (set (set bytes (at - 1) (digit_glyph true n)) (at - 2) 0x78) (at - 3) 35)
    (at - 4) 38)
    ≡ 38 ∷ 35 ∷ 0x78 ∷ digits_left
hex_front k bytes digits_left at n some h within small e =
    let one = set bytes (at - 1) (digit_glyph true n) in
    let two = set one (at - 2) 0x78 in
    let three = set two (at - 3) 35 in
    let length_of_one = length-set bytes (at - 1) (digit_glyph true n) in
    let length_of_two = length-set one (at - 2) 0x78 in
    let length_of_three = length-set two (at - 3) 35 in
    put_before three (at - 4) (at - 3) 38 (omega arith) (omega arith)
    ∙ ap (λ t. 38 ∷ t) (put_before two (at - 3) (at - 2) 35 (omega arith) (omega arith))
    ∙ ap (λ t. 38 ∷ 35 ∷ t) (put_before one (at - 2) (at - 1) 0x78 (omega arith) (omega arith))
    ∙ ap (λ t. 38 ∷ 35 ∷ 0x78 ∷ t)
    (put_before bytes (at - 1) at (digit_glyph true n) (omega arith) within
    ∙ sym (digits_onto-one k n (drop at bytes) some small) ∙ e)
