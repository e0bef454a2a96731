-- The laws of UTF-8's prefixes.
use Rattle.std.proofs.Common.{◌≡◌, ◌≢◌, ℕ, ◌<◌, ◌≤◌, ◌==◌, zero, suc, Bool, true, false, cond, List, [], ◌∷◌, length}
use Rattle.std.proofs.Common.{refl, ap, arith, subst, inl, inr}
use Rattle.std.proofs.Math.Seq.{drop-nil}
use Rattle.std.proofs.lemmas.Bool.Decides.{nat_tests}
use Rattle.enc_decoder.specs.declared.byte_codec.Text.TheVariants.{One}
use Rattle.enc_decoder.specs.declared.prefix.Prefix.{Prefix}
use Rattle.enc_decoder.specs.declared.prefix.Prefix.TheVariants.{Complete, Malformed, Incomplete}
use Rattle.enc_decoder.specs.Segmentation.{Head}
use Rattle.enc_decoder.specs.Prefixes.{prefix_head, malformed_prefix_head, LeavesIncomplete}
use Rattle.enc_decoder.specs.Prefixes.{CanBeOther, ArePrefixes, HasAscii, AreSettledBelowDigits}
use Rattle.enc_decoder.proofs.FirstSequenceLemmas.{true_or_false}
use Rattle.enc_decoder.proofs.PrefixLaws.{IsLawfulPrefix, either_lawful, prefixes_by, one_is_text}
use Rattle.enc_utf8.specs.Utf8Sequences.{sequence_len, is_second_byte, is_continuation, second_byte_min, scalar_of}
use Rattle.enc_utf8.proofs.Utf8SequenceLemmas.{at_most_four}
use Rattle.enc_decoder_utf.specs.Utf8.{first_byte_prefix, utf_8_prefix}

begun_lawful : (t : Bool) (len c : ℕ) → len ≤ 3
    → IsLawfulPrefix 3 len (cond t (Complete (One c)) Incomplete)
begun_lawful t len c few = either_lawful 3 len t (Complete (One c)) Incomplete (one_is_text c) few

lawful : (front : List ℕ) → IsLawfulPrefix 3 (length front) (utf_8_prefix front)
lawful [] = omega arith
lawful (a ∷ []) =
    either_lawful 3 1 (sequence_len a == 0) (Malformed 1) _ (omega arith, omega arith)
    (begun_lawful (sequence_len a == 1) 1 a (omega arith))
lawful (a ∷ b ∷ []) =
    either_lawful 3 2 (is_second_byte a b) _ (Malformed 1)
    (begun_lawful (sequence_len a == 2) 2 (scalar_of (a ∷ b ∷ [])) (omega arith))
    (omega arith, omega arith)
lawful (a ∷ b ∷ c ∷ []) =
    either_lawful 3 3 (is_continuation c) _ (Malformed 2)
    (begun_lawful (sequence_len a == 3) 3 (scalar_of (a ∷ b ∷ c ∷ [])) (omega arith))
    (omega arith, omega arith)
lawful (a ∷ b ∷ c ∷ d ∷ z) =
    either_lawful 3 (length (a ∷ b ∷ c ∷ d ∷ z)) (is_continuation d) _ (Malformed 3)
    (one_is_text (scalar_of (a ∷ b ∷ c ∷ d ∷ []))) (omega arith, omega arith)

-- what stands after a second byte, or a third, and then FF

other_first : (set a m x : ℕ) (t u : Bool) → t ≡ true
    → prefix_head utf_8_prefix set (a ∷ m ∷ [])
    (cond t (cond u (Complete (One x)) Incomplete) (Malformed 1)) (0xFF ∷ [])
    ≡ malformed_prefix_head set 1 → ⊥
unfolding is_continuation
other_first set a m x true true is same = let kind = ap (λ (h : Head). h.kind) same in cc
other_first set a m x true false is same =
    let more = ap (λ (h : Head). h.more) same in omega (arith, more)
other_first set a m x false u is same = cc

other_second : (set a b x : ℕ) (u : Bool)
    → prefix_head utf_8_prefix set (a ∷ b ∷ 0x80 ∷ []) (cond u (Complete (One x)) Incomplete)
    (0xFF ∷ []) ≡ malformed_prefix_head set 2 → ⊥
unfolding is_continuation
other_second set a b x true same = let kind = ap (λ (h : Head). h.kind) same in cc
other_second set a b x false same =
    let more = ap (λ (h : Head). h.more) same in omega (arith, more)

least_is_second : (a : ℕ) → is_second_byte a (second_byte_min a) ≡ true
unfolding is_second_byte
least_is_second a = grind (arith, nat_tests)

least_is_byte : (a : ℕ) → second_byte_min a < 256
least_is_byte a = grind (arith, nat_tests)

can_be_other : (front : List ℕ) → 0 < length front → utf_8_prefix front ≡ Incomplete
    → CanBeOther utf_8_prefix front
unfolding is_continuation
can_be_other [] some incomplete = absurd (omega arith)
can_be_other (a ∷ []) some incomplete = record {
  more = second_byte_min a ∷ 0xFF ∷ [];
  bytes = (least_is_byte a, (omega arith, tt));
  other = λ set same. other_first set a (second_byte_min a) _ _ (sequence_len a == 2)
      (least_is_second a) same;
}
can_be_other (a ∷ b ∷ []) some incomplete = record {
  more = 0x80 ∷ 0xFF ∷ [];
  bytes = (omega arith, (omega arith, tt));
  other = λ set same. other_second set a b _ (sequence_len a == 3) same;
}
can_be_other (a ∷ b ∷ c ∷ []) some incomplete = record {
  more = 0x80 ∷ [];
  bytes = (omega arith, tt);
  other = λ set same. let kind = ap (λ (h : Head). h.kind) same in cc;
}
can_be_other (a ∷ b ∷ c ∷ d ∷ z) some incomplete =
    let too_long = subst (IsLawfulPrefix 3 (length (a ∷ b ∷ c ∷ d ∷ z))) incomplete
    (lawful (a ∷ b ∷ c ∷ d ∷ z)) in
    absurd (omega arith)

pub utf_8_prefixes : ArePrefixes utf_8_prefix
utf_8_prefixes = prefixes_by utf_8_prefix 3 (omega arith) refl lawful can_be_other

pub utf_8_ascii : HasAscii utf_8_prefix
unfolding sequence_len
utf_8_ascii b low =
    let one_byte : sequence_len b ≡ 1 = grind (arith, nat_tests) in
    ap (λ len. first_byte_prefix len b) one_byte

-- A malformed sequence has all bytes before the one that shows it.

begun_len : (t u : Bool) (c m n : ℕ)
    → cond t (cond u (Complete (One c)) Incomplete) (Malformed m) ≡ Malformed n → n ≡ m
begun_len true true c m n malformed = absurd (cc)
begun_len true false c m n malformed = absurd (cc)
begun_len false u c m n malformed = cc

last_len : (t : Bool) (c m n : ℕ) → cond t (Complete (One c)) (Malformed m) ≡ Malformed n → n ≡ m
last_len true c m n malformed = absurd (cc)
last_len false c m n malformed = cc

pub utf_8_leaves : LeavesIncomplete utf_8_prefix
utf_8_leaves [] b n incomplete malformed = rw (drop-nil n) tt
utf_8_leaves (a ∷ []) b n incomplete malformed =
    let all = begun_len (is_second_byte a b) (sequence_len a == 2) _ 1 n malformed in rw all tt
utf_8_leaves (a ∷ b ∷ []) c n incomplete malformed =
    let all = begun_len (is_continuation c) (sequence_len a == 3) _ 2 n malformed in rw all tt
utf_8_leaves (a ∷ b ∷ c ∷ []) d n incomplete malformed =
    let all = last_len (is_continuation d) _ 3 n malformed in rw all tt
utf_8_leaves (a ∷ b ∷ c ∷ d ∷ z) e n incomplete malformed =
    absurd (not_begun (is_continuation d) _ incomplete.1.1.1.0)
  where
    not_begun : (t : Bool) (c : ℕ) → cond t (Complete (One c)) (Malformed 3) ≡ Incomplete → ⊥
    not_begun true c is_incomplete = cc
    not_begun false c is_incomplete = cc

-- a byte below 80 continues no sequence

ended : (t : Bool) (n : ℕ) (r : Prefix) → t ≡ false → cond t r (Malformed n) ≢ Incomplete
ended true n r is incomplete = cc
ended false n r is incomplete = cc

last_ended : (t : Bool) (c : ℕ) → cond t (Complete (One c)) (Malformed 3) ≢ Incomplete
last_ended true c incomplete = cc
last_ended false c incomplete = cc

low_second : (a c : ℕ) → c < 0x80 → is_second_byte a c ≡ false
unfolding is_second_byte
low_second a c low = grind (arith, nat_tests)

low_continuation : (c : ℕ) → c < 0x80 → is_continuation c ≡ false
unfolding is_continuation
low_continuation c low = grind (arith, nat_tests)

pub utf_8_settled : AreSettledBelowDigits utf_8_prefix
utf_8_settled c low a [] incomplete =
    ended (is_second_byte a c) 1 _ (low_second a c (omega arith)) incomplete
utf_8_settled c low a (b ∷ []) incomplete =
    ended (is_continuation c) 2 _ (low_continuation c (omega arith)) incomplete
utf_8_settled c low a (b ∷ d ∷ []) incomplete = last_ended (is_continuation c) _ incomplete
utf_8_settled c low a (b ∷ d ∷ e ∷ front) incomplete = last_ended (is_continuation e) _ incomplete

-- three bytes that are incomplete begin a sequence of four

not_whole : (t : Bool) (len n m c : ℕ)
    → cond t (cond (len == n) (Complete (One c)) Incomplete) (Malformed m) ≡ Incomplete
    → (len == n) ≡ false
not_whole true len n m c incomplete = elim (true_or_false (len == n)) [
  | inl whole ↦ absurd (let is_whole = rw whole at incomplete in cc)
  | inr longer ↦ longer
]
not_whole false len n m c incomplete = absurd (cc)

leads_some : (len c : ℕ)
    → cond (len == 0) (Malformed 1) (cond (len == 1) (Complete (One c)) Incomplete) ≡ Incomplete
    → 2 ≤ len
leads_some zero c incomplete = absurd (cc)
leads_some (suc zero) c incomplete = absurd (cc)
leads_some (suc (suc n)) c incomplete = omega arith

pub wants_four : (a b c : ℕ) → utf_8_prefix (a ∷ []) ≡ Incomplete
    → utf_8_prefix (a ∷ b ∷ []) ≡ Incomplete → utf_8_prefix (a ∷ b ∷ c ∷ []) ≡ Incomplete
    → sequence_len a ≡ 4
wants_four a b c first second third =
    let more = leads_some (sequence_len a) a first in
    let not_two = not_whole (is_second_byte a b) (sequence_len a) 2 1 _ second in
    let not_three = not_whole (is_continuation c) (sequence_len a) 3 2 _ third in
    grind (arith, nat_tests, at_most_four a)
