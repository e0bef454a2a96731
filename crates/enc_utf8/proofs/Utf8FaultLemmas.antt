-- The faults of sixteen bytes with those before them, lane by lane.
use Rattle.std.proofs.Common.{◌≡◌, ℕ, suc, ◌+◌, ◌-◌, ◌*◌, ◌/◌, ◌%◌, ◌^◌, ◌<◌, ◌≤◌, ◌⊎◌, Bool, true, false, not}
use Rattle.std.proofs.Common.{◌&&◌, cond, eqb, leb, ltb, le-leb, w8}
use Rattle.std.proofs.Common.{eq-eqb, List, length, get_or, replicate, take, bit_and, bit_or, bit_xor, refl, ap}
use Rattle.std.proofs.Common.{◌∙◌, sym, subst, arith, inl, inr, ◌∷◌, ◌++◌, drop}
use Rattle.std.proofs.lemmas.Bool.{and_parts, cases_lt}
use Rattle.std.proofs.lemmas.Bool.Decides.{nat_tests}
use Rattle.std.proofs.lemmas.List.{get_or-drop, get_or-take}
use Rattle.std.proofs.lemmas.Nat.{and_le_l, and_le_r}
use Rattle.std.proofs.lemmas.Nat.Bits.{and_pow, bit_at_or}
use Rattle.std.proofs.lemmas.Simd.{get_or-chunk, pick_l-range_with_len}
use Rattle.std.specs.Int.Bits.{or_add_and, xor_assoc, xor_self, xor_zero_l, xor_zero_r}
use Rattle.std.specs.List.{range_with_len}
use lib.Lanes.{chunk, pick_l}
use Rattle.enc_utf8.proofs.LengthLemmas.{lengths, rest_is}
use Rattle.enc_utf8.specs.declared.utf8_faults.TheConstants.{FIRST_UPPER, FIRST_LOWER, SECOND_UPPER}
use Rattle.enc_utf8.specs.Utf8Run.{CanFollowBytes, CanFollowBytesAt, IsCharBoundaryAfter, ArePairFaults}
use Rattle.enc_utf8.specs.Utf8Run.{begins_or_is_second, required_faults}
use Rattle.enc_utf8.specs.Utf8Sequences.{sequence_len, is_second_byte, is_continuation}
use Rattle.enc_utf8.specs.Validity.{IsWellFormedUtf8}
use Rattle.enc_utf8.proofs.TestLemmas.{every, every_passes}
use Rattle.enc_utf8.proofs.Utf8RunLemmas.{blocks_utf8}
use Rattle.enc_utf8.proofs.Lanes.{IsLanes, places, own, splat, by_op, chosen, compared}

-- the tables, at all halves

abbrev alike : Bool → Bool → Bool
alike true b = b
alike false b = not b

alike_is : (a b : Bool) → alike a b ≡ true → a ≡ b
alike_is true true e = refl
alike_is true false e = sym e
alike_is false true e = e
alike_is false false e = refl

abbrev looked_up : ℕ → ℕ → ℕ → ℕ
looked_up upper lower second =
    bit_and (bit_and (get_or FIRST_UPPER upper 0) (get_or FIRST_LOWER lower 0))
    (get_or SECOND_UPPER second 0)

abbrev continue : ℕ → ℕ → Bool
continue first second = is_continuation first && is_continuation second

abbrev halves_ok : ℕ → ℕ → ℕ → Bool
halves_ok upper lower second =
    let faults = looked_up upper lower second in
    alike (eqb faults 0) (begins_or_is_second (upper * 16 + lower) (second * 16))
    && alike (eqb faults 0x80) (continue (upper * 16 + lower) (second * 16))

tables_ok : every 16
    (λ upper. every 16 (λ lower. every 16 (λ second. halves_ok upper lower second))) ≡ true
unfolding every sequence_len is_second_byte is_continuation
tables_ok = refl

-- the upper half of the second byte decides

begins_by_upper : (x b : ℕ) → begins_or_is_second x (b / 16 * 16) ≡ begins_or_is_second x b
unfolding is_second_byte
begins_by_upper x b = grind (arith, nat_tests)

continue_by_upper : (x b : ℕ) → continue x (b / 16 * 16) ≡ continue x b
unfolding is_continuation
continue_by_upper x b = grind (arith, nat_tests)

-- the faults of a pair, where each table is read at a half
pub pair_faults_of : {x b upper lower second : ℕ} → x < 0x100 → b < 0x100
    → upper ≡ get_or FIRST_UPPER (x / 16) 0 → lower ≡ get_or FIRST_LOWER (x % 16) 0
    → second ≡ get_or SECOND_UPPER (b / 16) 0
    → ArePairFaults x b (bit_and (bit_and upper lower) second)
pair_faults_of {x} {b} first_fits second_fits upper_is lower_is second_is =
    let by_lower = every_passes 16
    (λ upper. every 16 (λ lower. every 16 (λ second. halves_ok upper lower second))) tables_ok
    (x / 16) (omega arith) in
    let by_second = every_passes 16
    (λ lower. every 16 (λ second. halves_ok (x / 16) lower second)) by_lower (x % 16)
    (omega arith) in
    let ok = every_passes 16 (λ second. halves_ok (x / 16) (x % 16) second) by_second (b / 16)
    (omega arith) in
    let parts = and_parts _ _ ok in
    let whole : x / 16 * 16 + x % 16 ≡ x = omega arith in
    rw (upper_is, lower_is, second_is) (record {
      none = alike_is _ _ parts.0 ∙ ap (λ z. begins_or_is_second z (b / 16 * 16)) whole
          ∙ begins_by_upper x b;
      continue = alike_is _ _ parts.1 ∙ ap (λ z. continue z (b / 16 * 16)) whole
          ∙ continue_by_upper x b;
    })

-- the faults that a character of three or four bytes requires

abbrev less : ℕ → ℕ → ℕ
less a b = (a + (2 ^ 8 - b)) % 2 ^ 8

abbrev excess : ℕ → ℕ → ℕ
excess a n = less (cond (ltb a n) n a) n

excess_is : (a n : ℕ) → a < 0x100 → n < 0x100 → excess a n ≡ a - n
excess_is a n la ln = elim (cases_lt a n) [
  | inl h ↦ grind (arith, nat_tests)
  | inr h ↦ grind (arith, nat_tests)
]

abbrev pub excesses : (n : ℕ) (xs : List ℕ) → length xs ≡ 16
    → (m : List ℕ) × IsLanes places m (λ k. excess (get_or xs k 0) n)
excesses n xs long =
    let most = chosen w8 _ (compared ltb n xs long) (splat n) (own xs long) in
    (_, by_op most (splat n) less)

pub required_is : (z y : ℕ) → z < 0x100 → y < 0x100
    → bit_and (bit_or (excess y 0x60) (excess z 0x70)) 0x80 ≡ required_faults z y
required_is z y lz ly =
    let of_two = excess_is y 0x60 ly (omega arith) in
    let of_three = excess_is z 0x70 lz (omega arith) in
    let bit = and_pow (bit_or (y - 0x60) (z - 0x70)) 7 in
    let one_of = bit_at_or (y - 0x60) (z - 0x70) 7 in
    rw (of_two, of_three) (elim (cases_lt y 0xE0) [
      | inr h ↦ rw (le-leb 0xE0 y h) (omega arith)
      | inl h ↦
          let short : leb 0xE0 y ≡ false = grind (arith, nat_tests) in
          elim (cases_lt z 0xF0) [
            | inr g ↦ rw (short, le-leb 0xF0 z g) (omega arith)
            | inl g ↦
                let none : leb 0xF0 z ≡ false = grind (arith, nat_tests) in
                rw (short, none) (omega arith)
          ]
    ])

-- a byte without a fault

equal_if_no_difference : (a b : ℕ) → bit_xor a b ≡ 0 → a ≡ b
equal_if_no_difference a b e =
    sym (xor_zero_r a) ∙ ap (bit_xor a) (sym e) ∙ sym (xor_assoc a a b)
    ∙ ap (λ z. bit_xor z b) (xor_self a) ∙ xor_zero_l b

module _ {z y x b : ℕ} where
  within : (0xE0 ≤ y) ⊎ (0xF0 ≤ z) → continue x b ≡ true → CanFollowBytes z y x b
  unfolding is_continuation
  within long continues = grind (arith, nat_tests)

  between : y < 0xE0 → z < 0xF0 → begins_or_is_second x b ≡ true → CanFollowBytes z y x b
  unfolding sequence_len
  between no_second no_third begins = grind (arith, nat_tests)

  pub can_follow : (required pair : ℕ) → required ≡ required_faults z y → ArePairFaults x b pair
      → bit_xor required pair ≡ 0 → CanFollowBytes z y x b
  can_follow required pair is faults none =
      let same : required_faults z y ≡ pair =
      sym is ∙ equal_if_no_difference required pair none in
      elim (cases_lt y 0xE0) [
        | inr long ↦
            let wants : pair ≡ 0x80 = grind (arith, nat_tests, same, long) in
            within (inl long) (sym faults.continue ∙ eq-eqb pair 0x80 wants)
        | inl short ↦ elim (cases_lt z 0xF0) [
          | inr wide ↦
              let wants : pair ≡ 0x80 = grind (arith, nat_tests, same, wide) in
              within (inr wide) (sym faults.continue ∙ eq-eqb pair 0x80 wants)
          | inl narrow ↦
              let wants : pair ≡ 0 = grind (arith, nat_tests, same, short, narrow) in
              between short narrow (sym faults.none ∙ eq-eqb pair 0 wants)
        ]
      ]

-- the bytes of a load

pub along : {z y x b z' y' x' b' : ℕ} → z ≡ z' → y ≡ y' → x ≡ x' → b ≡ b' → CanFollowBytes z y x b
    → CanFollowBytes z' y' x' b'
along p q r s follows = rw (p, q, r, s) at follows

pub follow_here : (src : List ℕ) (at k : ℕ) → k < 16
    → CanFollowBytes (get_or (chunk at 16 src) k 0) (get_or (chunk (at + 1) 16 src) k 0)
    (get_or (chunk (at + 2) 16 src) k 0) (get_or (chunk (at + 3) 16 src) k 0)
    → CanFollowBytesAt src (at + k)
follow_here src at k few f =
    let lane : (i m : ℕ) → i + k ≡ m → get_or (chunk i 16 src) k 0 ≡ get_or src m 0 =
    λ i m e. get_or-chunk i 16 src k 0 few ∙ ap (λ n. get_or src n 0) e in
    along (lane at (at + k) refl) (lane (at + 1) (suc (at + k)) (omega arith))
    (lane (at + 2) (suc (suc (at + k))) (omega arith))
    (lane (at + 3) (suc (suc (suc (at + k)))) (omega arith)) f

-- blocks without a fault

abbrev BlockFollows : List ℕ → ℕ → Type 0
BlockFollows src at = (k : ℕ) → k < 16 → CanFollowBytesAt src (at + k)

pub follow_from : (src : List ℕ) (at : ℕ) → BlockFollows src at → (k : ℕ) → at ≤ k → k < at + 16
    → CanFollowBytesAt src k
follow_from src at all k from to =
    let place : at + (k - at) ≡ k = omega arith in
    subst (CanFollowBytesAt src) place (all (k - at) (omega arith))

-- from `at` on, and then from m on
pub follow_both : (src : List ℕ) {at end : ℕ} (m : ℕ)
    → ((k : ℕ) → at ≤ k → k < m → CanFollowBytesAt src k)
    → ((k : ℕ) → m ≤ k → k < end → CanFollowBytesAt src k)
    → (k : ℕ) → at ≤ k → k < end → CanFollowBytesAt src k
follow_both src m first more k from to = elim (cases_lt k m) [
  | inl before ↦ first k from before
  | inr after ↦ more k after to
]

pub four_follow : (src : List ℕ) (at : ℕ) → BlockFollows src at → BlockFollows src (at + 16)
    → BlockFollows src (at + 32) → BlockFollows src (at + 48) → (k : ℕ) → at ≤ k → k < at + 64
    → CanFollowBytesAt src k
four_follow src at one two three four k from to =
    follow_both src (at + 16) (follow_from src at one)
    (follow_both src (at + 32) (λ k from to. follow_from src (at + 16) two k from (omega arith))
    (follow_both src (at + 48) (λ k from to. follow_from src (at + 32) three k from (omega arith))
    (λ k from to. follow_from src (at + 48) four k from (omega arith)))) k from to

pub neither : (a b : ℕ) → bit_or a b ≡ 0 → (a ≡ 0) × (b ≡ 0)
neither a b e = omega (arith, or_add_and a b, and_le_l a b, and_le_r a b)

-- the first block, as after zeros

pub shifted : (n : ℕ) (bytes : List ℕ) → n ≤ 16 → length bytes ≡ 16 → (k : ℕ) → k < 16
    → get_or (pick_l 0 (replicate 16 0 ++ bytes) (range_with_len n 16)) k 0
    ≡ get_or (drop n (replicate 16 0 ++ bytes)) k 0
shifted n bytes few long k h =
    let both : List ℕ = replicate 16 0 ++ bytes in
    let both_long : length both ≡ 32 =
    omega (arith, lengths, long) in
    ap (λ l. get_or l k 0) (pick_l-range_with_len 0 both n 16 (omega arith))
    ∙ get_or-chunk n 16 both k 0 h ∙ sym (get_or-drop n both k 0)

pub start_here : (src : List ℕ) (k : ℕ) → k < 16
    → CanFollowBytes (get_or (0 ∷ 0 ∷ 0 ∷ take 16 src) k 0) (get_or (0 ∷ 0 ∷ take 16 src) k 0)
    (get_or (0 ∷ take 16 src) k 0) (get_or (take 16 src) k 0)
    → CanFollowBytesAt (0 ∷ 0 ∷ 0 ∷ src) k
start_here src k few f =
    along (get_or-take 19 (0 ∷ 0 ∷ 0 ∷ src) k 0 (omega arith))
    (get_or-take 18 (0 ∷ 0 ∷ src) k 0 (omega arith)) (get_or-take 17 (0 ∷ src) k 0 (omega arith))
    (get_or-take 16 src k 0 few) f

-- blocks of the rest
pub follow_after : (src : List ℕ) (n m : ℕ)
    → ((k : ℕ) → k < m → CanFollowBytesAt (take (length src - n) (drop n src)) k)
    → (k : ℕ) → n ≤ k → k < n + m → CanFollowBytesAt src k
follow_after src n m all k from to =
    let here : (i j : ℕ) → n + i ≡ j → get_or (drop n src) i 0 ≡ get_or src j 0 =
    λ i j e. get_or-drop n src i 0 ∙ ap (λ m. get_or src m 0) e in
    along (here (k - n) k (omega arith)) (here (suc (k - n)) (suc k) (omega arith))
    (here (suc (suc (k - n))) (suc (suc k)) (omega arith))
    (here (suc (suc (suc (k - n)))) (suc (suc (suc k))) (omega arith))
    (rw (rest_is n src) at (all (k - n) (omega arith)))

-- the first sixteen bytes and those after them
pub follow_all : (src : List ℕ) (n : ℕ)
    → ((k : ℕ) → k < 16 → CanFollowBytesAt (0 ∷ 0 ∷ 0 ∷ src) k)
    → ((k : ℕ) → 13 ≤ k → k + 3 < n → CanFollowBytesAt src k)
    → (k : ℕ) → k < n → CanFollowBytesAt (0 ∷ 0 ∷ 0 ∷ src) k
follow_all src n start rest k few = elim (cases_lt k 16) [
  | inl h ↦ start k h
  | inr h ↦
      let place : suc (suc (suc (k - 3))) ≡ k = omega arith in
      subst (CanFollowBytesAt (0 ∷ 0 ∷ 0 ∷ src)) place (rest (k - 3) (omega arith) (omega arith))
]

pub start_utf8 : (src : List ℕ) (n : ℕ) → 3 ≤ n → n ≤ length src
    → ((k : ℕ) → k < n → CanFollowBytesAt (0 ∷ 0 ∷ 0 ∷ src) k) → IsCharBoundaryAfter src (n - 3)
    → IsWellFormedUtf8 (take n src)
start_utf8 src n some within follow ends =
    let place : suc (suc (suc (n - 3))) ≡ n = omega arith in
    blocks_utf8 n (0 ∷ 0 ∷ 0 ∷ src) (omega arith) (omega arith, omega arith, omega arith) follow
    (subst (IsCharBoundaryAfter (0 ∷ 0 ∷ 0 ∷ src)) place ends)
