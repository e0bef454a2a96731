-- Words in the order of the table.
use Rattle.std.proofs.Common.{◌≡◌, ℕ, zero, suc, ◌-◌, ◌<◌, ◌≤◌, true, List, [], ◌∷◌, length, drop, get_or, Fits}
use Rattle.std.proofs.Common.{w8, arith, ap, ltb-true, ◌≢◌, inl, inr, subst}
use Rattle.std.proofs.lemmas.Bool.{and_parts, cases_lt}
use Rattle.std.specs.Ordering.{MatchOrdering}
use Rattle.std.specs.declared.cmp.Ordering.{Ordering}
use Rattle.std.specs.declared.cmp.Ordering.TheVariants.{Less, Equal, Greater}
use Rattle.enc_names.specs.Order.{word_number, are_ascending_words}

abbrev pub IsBytes : List ℕ → Type 0
IsBytes a = (i : ℕ) → Fits w8 (get_or a i 0)

-- a shorter word comes before a longer one
pub shorter_before : (a b : List ℕ) → IsBytes a → length a < length b
    → word_number a < word_number b
shorter_before a [] are_bytes h = absurd (omega arith)
shorter_before [] (y ∷ b) are_bytes h = omega arith
shorter_before (x ∷ a) (y ∷ b) are_bytes h =
    let rest_before = shorter_before a b (λ i. are_bytes (suc i)) (omega arith) in
    let first_is_byte = (are_bytes 0).fits in
    omega arith

-- and of two that have one length, and are the same after a place, that with the lesser byte there
lesser_before : (i : ℕ) (a b : List ℕ) → IsBytes a
    → length a ≡ length b → i < length a → drop (suc i) a ≡ drop (suc i) b
    → get_or a i 0 < get_or b i 0 → word_number a < word_number b
lesser_before i [] b are_bytes e l same_after g = absurd (omega arith)
lesser_before i (x ∷ a) [] are_bytes e l same_after g = absurd (omega arith)
lesser_before zero (x ∷ a) (y ∷ b) are_bytes e l same_after g =
    let same_number : word_number a ≡ word_number b = ap word_number same_after in omega arith
lesser_before (suc i) (x ∷ a) (y ∷ b) are_bytes e l same_after g =
    let rest_before =
    lesser_before i a b (λ j. are_bytes (suc j)) (omega arith) (omega arith) same_after g in
    let first_is_byte = (are_bytes 0).fits in
    omega arith

-- the same at the byte before a place
pub lesser_before_place : (a b : List ℕ) (at : ℕ) → IsBytes a → length a ≡ length b → 0 < at
    → at ≤ length a → drop at a ≡ drop at b → get_or a (at - 1) 0 < get_or b (at - 1) 0
    → word_number a < word_number b
lesser_before_place a b at are_bytes same_length some within same_after less =
    let next_place : at ≡ suc (at - 1) = omega arith in
    lesser_before (at - 1) a b are_bytes same_length (omega arith)
    (subst (λ k. drop k a ≡ drop k b) next_place same_after) less

-- Words are ordered as the numbers are that make one come before another.
pub ordered_by : {m n : ℕ} (a b : List ℕ) (r : Ordering)
    → (m < n → word_number a < word_number b) → (n < m → word_number b < word_number a) → m ≢ n
    → MatchOrdering r (m < n) (m ≡ n) (n < m)
    → MatchOrdering r (word_number a < word_number b) (a ≡ b) (word_number b < word_number a)
ordered_by a b Less before after differ order = before order
ordered_by a b Equal before after differ order = absurd (differ order)
ordered_by a b Greater before after differ order = after order

-- in an ascending table

first_before : (one two : List ℕ) (words : List (List ℕ))
    → are_ascending_words (one ∷ two ∷ words) ≡ true
    → (word_number one < word_number two) × (are_ascending_words (two ∷ words) ≡ true)
unfolding are_ascending_words
first_before one two words ascend =
    let parts = and_parts _ _ ascend in
    (ltb-true (word_number one) (word_number two) parts.0, parts.1)

-- an earlier word comes before a later one
pub earlier_before : (words : List (List ℕ)) → are_ascending_words words ≡ true → (i j : ℕ) → i < j
    → j < length words → word_number (get_or words i []) < word_number (get_or words j [])
earlier_before [] ascend i j less within = absurd (omega arith)
earlier_before (one ∷ []) ascend i j less within = absurd (omega arith)
earlier_before (one ∷ two ∷ words) ascend i zero less within = absurd (omega arith)
earlier_before (one ∷ two ∷ words) ascend zero (suc zero) less within =
    (first_before one two words ascend).0
earlier_before (one ∷ two ∷ words) ascend zero (suc (suc j)) less within =
    let first = first_before one two words ascend in
    let later = earlier_before (two ∷ words) first.1 0 (suc j) (omega arith) (omega arith) in
    omega arith
earlier_before (one ∷ two ∷ words) ascend (suc i) (suc j) less within =
    earlier_before (two ∷ words) (first_before one two words ascend).1 i j (omega arith)
    (omega arith)

-- and no word is after a later one
pub no_later : (words : List (List ℕ)) → are_ascending_words words ≡ true → (i j : ℕ) → i ≤ j
    → j < length words → word_number (get_or words i []) ≤ word_number (get_or words j [])
no_later words ascend i j few within = elim (cases_lt i j) [
  | inl less ↦ (let before = earlier_before words ascend i j less within in omega arith)
  | inr none ↦ (let same : i ≡ j = omega arith in rw same (omega arith))
]
