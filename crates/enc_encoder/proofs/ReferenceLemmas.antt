-- Decimal digits, written from the last to the first.
use Rattle.std.proofs.Common.{◌≡◌, ℕ, zero, suc, ◌+◌, ◌-◌, ◌/◌, ◌%◌, ◌^◌, ◌<◌, ◌≤◌, List, [], ◌∷◌, ◌++◌, length, drop}
use Rattle.std.proofs.Common.{set, decimal, refl, ap, ◌∙◌, sym, arith, append_assoc, length-set}
use Rattle.std.proofs.lemmas.List.{drop-set}
use Rattle.std.proofs.lemmas.Fmt.{decimal_step, decimal_digit}

-- a byte that is put before those from a place on
pub put_before : (bytes : List ℕ) (i at x : ℕ) → i + 1 ≡ at → at ≤ length bytes
    → drop i (set bytes i x) ≡ x ∷ drop at bytes
put_before bytes i at x e h = drop-set bytes i x (omega arith) ∙ ap (λ n. x ∷ drop n bytes) e

-- a place less is taken by a number without its last digit
pub places_fewer : (k n : ℕ) → 10 ≤ n → n < 10 ^ k → (2 ≤ k) × (n / 10 < 10 ^ (k - 1))
places_fewer zero n h small = absurd (omega arith)
places_fewer (suc zero) n h small = absurd (omega arith)
places_fewer (suc (suc j)) n h small =
    let left : suc (suc j) - 1 ≡ suc j = omega arith in
    (omega arith, rw left (omega arith))

-- the last digit after the others
pub last_digit : (n : ℕ) (t : List ℕ) → 10 ≤ n → n < 2 ^ 64
    → decimal (n / 10) ++ ((48 + n % 10) ∷ t) ≡ decimal n ++ t
last_digit n t h small =
    sym (append_assoc (decimal (n / 10)) ((48 + n % 10) ∷ []) t)
    ∙ ap (λ x. x ++ t) (sym (decimal_step n h small))

-- the first digit, and the bytes before it
pub front : (bytes digits : List ℕ) (at n : ℕ) → 3 ≤ at → at ≤ length bytes → n < 10
    → decimal n ++ drop at bytes ≡ digits
    → drop (at - 3) (set (set (set bytes (at - 1) (48 + n)) (at - 2) 35) (at - 3) 38) ≡ 38 ∷ 35
    ∷ digits
front bytes digits at n h k small e =
    let one = set bytes (at - 1) (48 + n) in
    let two = set one (at - 2) 35 in
    let length_of_one = length-set bytes (at - 1) (48 + n) in
    let length_of_two = length-set one (at - 2) 35 in
    put_before two (at - 3) (at - 2) 38 (omega arith) (omega arith)
    ∙ ap (λ t. 38 ∷ t) (put_before one (at - 2) (at - 1) 35 (omega arith) (omega arith))
    ∙ ap (λ t. 38 ∷ 35 ∷ t) (put_before bytes (at - 1) at (48 + n) (omega arith) k)
    ∙ ap (λ t. 38 ∷ 35 ∷ (t ++ drop at bytes)) (sym (decimal_digit n small))
    ∙ ap (λ t. 38 ∷ 35 ∷ t) e

-- one digit more, and the digits before it
one_more : (n m : ℕ) (t : List ℕ) → 10 ≤ n → n < 2 ^ 64 → n / 10 ≡ m
    → decimal n ++ t ≡ decimal m ++ ((48 + n % 10) ∷ t)
one_more n m t h small e =
    sym (last_digit n t h small) ∙ ap (λ k. decimal k ++ ((48 + n % 10) ∷ t)) e

-- the digits of a number by its quotients
pub four_digits : (n : ℕ) (t : List ℕ) → 1000 ≤ n → n < 10000
    → decimal n ++ t
    ≡ (48 + n / 1000 % 10) ∷ (48 + n / 100 % 10) ∷ (48 + n / 10 % 10) ∷ (48 + n % 10) ∷ t
four_digits n t h small =
    let first_alone : 48 + n / 1000 ≡ 48 + n / 1000 % 10 = omega arith in
    let from_last = (48 + n % 10) ∷ t in
    let from_third = (48 + n / 10 % 10) ∷ from_last in
    let from_second = (48 + n / 100 % 10) ∷ from_third in
    one_more n (n / 10) t (omega arith) (omega arith) refl
    ∙ one_more (n / 10) (n / 100) from_last (omega arith) (omega arith) (omega arith)
    ∙ one_more (n / 100) (n / 1000) from_third (omega arith) (omega arith) (omega arith)
    ∙ ap (λ z. z ++ from_second) (decimal_digit (n / 1000) (omega arith))
    ∙ ap (λ d. d ∷ from_second) first_alone

pub five_digits : (n : ℕ) (t : List ℕ) → 10000 ≤ n → n < 100000
    → decimal n ++ t
    ≡ (48 + n / 10000 % 10) ∷ (48 + n / 1000 % 10) ∷ (48 + n / 100 % 10) ∷ (48 + n / 10 % 10)
    ∷ (48 + n % 10) ∷ t
five_digits n t h small =
    let thousands : n / 10 / 1000 ≡ n / 10000 = omega arith in
    let hundreds : n / 10 / 100 ≡ n / 1000 = omega arith in
    let tens : n / 10 / 10 ≡ n / 100 = omega arith in
    one_more n (n / 10) t (omega arith) (omega arith) refl
    ∙ four_digits (n / 10) ((48 + n % 10) ∷ t) (omega arith) (omega arith)
    ∙ rw (thousands, hundreds, tens) refl
