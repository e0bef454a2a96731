-- The rule of UTF-8, by how many bytes begin a well-formed sequence, and the scalar values of those
-- that are well-formed.
use Rattle.std.proofs.Common.{◌≡◌, ℕ, ◌+◌, ◌-◌, ◌<◌, ◌≤◌, zero, suc, true, List, [], ◌∷◌, length, take}
use Rattle.std.proofs.Common.{refl, eqb, ◌⊎◌, arith, inl, inr}
use Rattle.std.proofs.lemmas.Bool.Decides.{nat_tests, leb_tells}
use Rattle.std.specs.Char.{InScalarRange}
use Rattle.enc_utf8.proofs.Utf8SequenceLemmas.{two_range, three_range, four_range, second_range, continuation_range}
use Rattle.enc_utf8.specs.Utf8Sequences.{sequence_len, is_second_byte, is_continuation, continuations, continuing_len}
use Rattle.enc_utf8.specs.Utf8Sequences.{well_formed_tail_len, scalar_of}
use Rattle.enc_decoder.specs.Segmentation.{Head, character_head, malformed_head}
use Rattle.enc_decoder.proofs.FirstSequenceLemmas.{true_or_false}
use Rattle.enc_decoder_utf.specs.Utf8.{utf_8_rule}

-- what holds of a whole sequence, and of one that stops short, holds of the first sequence
pub holds_of_first : (Holds : Head → Type 0) (set b : ℕ) (z : List ℕ)
    → (sequence_len b ≡ suc (well_formed_tail_len b z)
    → Holds (character_head set (well_formed_tail_len b z)
    (scalar_of (b ∷ take (well_formed_tail_len b z) z))))
    → Holds (malformed_head set (well_formed_tail_len b z)) → Holds (utf_8_rule set b z)
unfolding utf_8_rule
holds_of_first Holds set b z whole short =
    elim (true_or_false (eqb (well_formed_tail_len b z + 1) (sequence_len b))) [
      | inl is_whole ↦ rw is_whole (whole (grind (arith, nat_tests)))
      | inr is_short ↦ rw is_short short
    ]

-- A third or a fourth byte continues a sequence as a second one does after 0.

continues_as_second : (c : ℕ) → is_second_byte 0 c ≡ is_continuation c
unfolding is_second_byte is_continuation
continues_as_second c = refl

continuations_as_second : (n : ℕ) (z : List ℕ) → continuations n z ≡ continuing_len 0 n z
unfolding is_second_byte is_continuation
continuations_as_second zero z = refl
continuations_as_second (suc n) [] = refl
continuations_as_second (suc n) (c ∷ z) = refl

-- they reach no further than they are there and wanted

pub continuing_len-within : (b n : ℕ) (z : List ℕ) → (continuing_len b n z ≤ n)
    × (continuing_len b n z ≤ length z)
continuing_len-within b zero z = (omega arith, omega arith)
continuing_len-within b (suc n) [] = (omega arith, omega arith)
continuing_len-within b (suc n) (c ∷ z) = elim (true_or_false (is_second_byte b c)) [
  | inl goes_on ↦ rw (goes_on, continuations_as_second n z)
      (let rest_within = continuing_len-within 0 n z in (omega arith, omega arith))
  | inr ends ↦ rw ends (omega arith, omega arith)
]

pub well_formed_tail_len-within : (b : ℕ) (z : List ℕ) → well_formed_tail_len b z ≤ length z
well_formed_tail_len-within b z = (continuing_len-within b (sequence_len b - 1) z).1

-- the bytes that are reached follow the first one
abbrev pub AreFollowing : ℕ → List ℕ → Type 0
AreFollowing b [] = Unit {0}
AreFollowing b (c ∷ z) = (is_second_byte b c ≡ true) × AreFollowing 0 z

pub reached_follow : (b n : ℕ) (z : List ℕ) → AreFollowing b (take (continuing_len b n z) z)
reached_follow b zero z = tt
reached_follow b (suc n) [] = tt
reached_follow b (suc n) (c ∷ z) = elim (true_or_false (is_second_byte b c)) [
  | inl goes_on ↦ rw (goes_on, continuations_as_second n z) (goes_on, reached_follow 0 n z)
  | inr ends ↦ rw ends tt
]

-- the scalar values

pub two_scalar : (a b : ℕ) → sequence_len a ≡ 2 → is_second_byte a b ≡ true
    → InScalarRange (scalar_of (a ∷ b ∷ []))
two_scalar a b two_bytes follows =
    let lead_in_range = two_range a two_bytes in
    let second_in_range = second_range a b follows in inl (omega arith)

at_most_or_above : (a n : ℕ) → (a ≤ n) ⊎ (n < a)
at_most_or_above a n = grind (arith, nat_tests, leb_tells a n)

pub three_scalar : (a b c : ℕ) → sequence_len a ≡ 3 → is_second_byte a b ≡ true
    → is_continuation c ≡ true
    → InScalarRange (scalar_of (a ∷ b ∷ c ∷ []))
three_scalar a b c three_bytes follows continues =
    let lead_in_range = three_range a three_bytes in
    let second_in_range = second_range a b follows in
    let third_in_range = continuation_range c continues in
    elim (at_most_or_above a 0xED) [
      | inl within ↦ inl (grind arith)
      | inr beyond ↦ inr (omega arith, omega arith)
    ]

pub four_scalar : (a b c d : ℕ)
    → sequence_len a ≡ 4 → is_second_byte a b ≡ true → is_continuation c ≡ true
    → is_continuation d ≡ true
    → InScalarRange (scalar_of (a ∷ b ∷ c ∷ d ∷ []))
four_scalar a b c d four_bytes follows continues ends =
    let lead_in_range = four_range a four_bytes in
    let second_in_range = second_range a b follows in
    let third_in_range = continuation_range c continues in
    let fourth_in_range = continuation_range d ends in
    inr (grind arith, grind arith)
