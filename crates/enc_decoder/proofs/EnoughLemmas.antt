-- Which lengths are enough, by what the sequences of a rule have for each byte.
use Rattle.enc_decoder.specs.declared.text_lengths.TextLengths.TheVariants.{MultiByte}
use Rattle.std.proofs.Common.{◌≡◌, ℕ, ◌+◌, ◌*◌, ◌/◌, ◌^◌, ◌<◌, ◌≤◌, zero, suc, Bool, true, false, cond, nat_lt, Option}
use Rattle.std.proofs.Common.{Some, None, List, [], ◌∷◌, ◌++◌, length, take, drop, refl, ap, ◌∙◌, sym, arith, inl, inr}
use Rattle.std.proofs.lemmas.Str.{length-encode}
use Rattle.std.proofs.lemmas.Bool.Decides.{nat_tests}
use Rattle.std.proofs.lemmas.Bool.{cases_lt, cond-true, lt-ltb}
use Rattle.std.proofs.lemmas.List.{length-append, take-append-drop}
use Rattle.std.specs.Char.{encode_utf8, len_utf8}
use Rattle.std.specs.Char.Escape.{encode_utf16}
use Rattle.enc_utf8.specs.Text.{units_of_text}
use Rattle.enc_utf8.specs.Checked.{checked_add, checked_mul, checked_half}
use Rattle.enc_decoder.specs.Sequence.{Sequence, is_malformed}
use Rattle.enc_decoder.specs.Segmentation.{Rule, head_sequence, sequences_after, sequences_of}
use Rattle.enc_decoder.specs.CodecState.{CodecState, remainder_of}
use Rattle.enc_decoder.specs.declared.error_mode.ErrorMode.{ErrorMode}
use Rattle.enc_decoder.specs.declared.error_mode.ErrorMode.TheVariants.{Replacement, Fatal}
use Rattle.enc_decoder.specs.RuleLaws.{HasSmallTexts}
use Rattle.enc_decoder.specs.declared.text_lengths.TextLengths.{TextLengths}
use Rattle.enc_decoder.specs.declared.text_lengths.TextLengths.TheVariants as lengths
use Rattle.enc_decoder.specs.Lengths.{utf_8_length, reporting_length, utf_16_length}
use Rattle.enc_decoder.specs.Need.{sequences_before_malformed, needed_units, NeedExceeds, IsBmpText}
use Rattle.enc_decoder.specs.Need.{IsEnoughForCodec, AreEnoughForCodec}
use Rattle.enc_decoder.specs.Remainder.{AreBytes}
use Rattle.enc_decoder.proofs.NeedLemmas.{units, units-both, units-one, needed_more, at_end}

-- what a formula comes to, where no step of it passes usize

fitting_is : (n q : ℕ) (t : Bool) → cond t (Some n) None ≡ Some q → q ≡ n
fitting_is n q true e = cc
fitting_is n q false e = cc

pub plus_is : (o : Option ℕ) (b q : ℕ) → checked_add o b ≡ Some q → (a : ℕ) × (o ≡ Some a)
    × (q ≡ a + b)
plus_is None b q e = absurd (cc)
plus_is (Some a) b q e = (a, refl, fitting_is (a + b) q (nat_lt (a + b) (2 ^ 64)) e)

pub times_is : (o : Option ℕ) (b q : ℕ) → checked_mul o b ≡ Some q → (a : ℕ) × (o ≡ Some a)
    × (q ≡ a * b)
times_is None b q e = absurd (cc)
times_is (Some a) b q e = (a, refl, fitting_is (a * b) q (nat_lt (a * b) (2 ^ 64)) e)

pub half_is : (o : Option ℕ) (q : ℕ) → checked_half o ≡ Some q → (a : ℕ) × (o ≡ Some a)
    × (q ≡ a / 2)
half_is None q e = absurd (cc)
half_is (Some a) q e = (a, refl, cc)

-- the number in Some
pub same_some : (a b : ℕ) → Some a ≡ Some b → a ≡ b
same_some a b e = cc

pub sum_is : (n h q : ℕ) → checked_add (Some n) h ≡ Some q → q ≡ n + h
sum_is n h q e = fitting_is (n + h) q (nat_lt (n + h) (2 ^ 64)) e

pub thrice_is : (o : Option ℕ) (m q : ℕ) → ((a : ℕ) → o ≡ Some a → a ≡ m) → checked_mul o 3 ≡ Some q
    → q ≡ 3 * m
thrice_is o m q h e = let product = times_is o 3 q e in
    omega (arith, product.2, h product.0 product.1)

-- Sequences have at most `most` code units, by the designated set and the number of bytes, if the
-- first one and those that may follow it have.
module _ (units_of : ℕ → List ℕ) (rule : Rule) (most : ℕ → ℕ → ℕ)
    (step : (set b : ℕ) (z : List ℕ)
    → length (units_of_text units_of (rule set b z).text)
    + most (rule set b z).set (length (drop (rule set b z).more z)) ≤ most set (suc (length z)))
  where
    bounded_after : (set k : ℕ) (z : List ℕ)
        → units units_of (sequences_after rule set k z) ≤ most set
        (length (drop k z))
    unfolding sequences_after
    bounded_after set zero [] = omega arith
    bounded_after set (suc k) [] = omega arith
    bounded_after set zero (b ∷ z) =
        let head = rule set b z in
        omega (
          arith,
          step set b z,
          bounded_after head.set head.more z,
          units-both units_of (head_sequence head b z ∷ [])
              (sequences_after rule head.set head.more z),
          units-one units_of (head_sequence head b z) head.text refl,
        )
    bounded_after set (suc k) (b ∷ z) = bounded_after set k z

    pub bounded : (set : ℕ) (z : List ℕ)
        → units units_of (sequences_of rule set z) ≤ most set (length z)
    bounded set z = bounded_after set 0 z

-- what a call reports is no more than all
before_less : (units_of : ℕ → List ℕ) (ss : List Sequence)
    → units units_of (sequences_before_malformed ss) ≤ units units_of ss
before_less units_of [] = omega arith
before_less units_of (s ∷ ss) =
    by_test (is_malformed s.kind) _ (before_less units_of ss)
  where
    by_test : (t : Bool) (others : List Sequence) → units units_of others ≤ units units_of ss
        → units units_of (cond t [] (s ∷ others)) ≤ units units_of (s ∷ ss)
    by_test true others less = omega arith
    by_test false others less =
        omega (arith, units-both units_of (s ∷ []) ss, units-both units_of (s ∷ []) others)

pub needed_less : (units_of : ℕ → List ℕ) (mode : ErrorMode) (ss : List Sequence)
    → needed_units units_of mode ss ≤ units units_of ss
needed_less units_of Replacement ss = omega arith
needed_less units_of Fatal ss = before_less units_of ss

-- the need of a call is part of the need of all bytes
pub needs_all : (units_of : ℕ → List ℕ) (mode : ErrorMode) (v : CodecState) (src : List ℕ)
    (last : Bool) (n : ℕ)
    → NeedExceeds units_of mode (remainder_of v) src last n
    → n < needed_units units_of mode (sequences_of v.rule v.set (v.pending ++ src))
needs_all units_of mode v src last n exceeds =
    let within_all = at_end last (remainder_of v).sequences src exceeds.sequences
    exceeds.determined in
    omega (
      arith,
      exceeds.more,
      needed_more units_of mode exceeds.sequences within_all.0,
      ap (needed_units units_of mode) within_all.1,
    )

-- a need that is bounded by the number of all bytes
pub never_passes : (units_of : ℕ → List ℕ) (mode : ErrorMode) (most : ℕ → ℕ) (v : CodecState)
    → ((z : List ℕ) → needed_units units_of mode (sequences_of v.rule v.set z) ≤ most (length z))
    → (src : List ℕ) (last : Bool) (n : ℕ) → most (length v.pending + length src) ≤ n
    → NeedExceeds units_of mode (remainder_of v) src last n → ⊥
never_passes units_of mode most v within src last n is_most exceeds =
    omega (
      arith,
      is_most,
      within (v.pending ++ src),
      needs_all units_of mode v src last n exceeds,
      ap most
          (length-append v.pending src),
    )

-- All sequences of the pending bytes and any others have at most as many code units as a formula
-- gives.
abbrev pub HasUnitsWithin : (ℕ → List ℕ) → (ℕ → ℕ → Option ℕ) → CodecState → Type 0
HasUnitsWithin units_of length_of v = (src : List ℕ) (n : ℕ) → AreBytes src
    → length_of (length src) (length v.pending) ≡ Some n
    → units units_of (sequences_of v.rule v.set (v.pending ++ src)) ≤ n

-- Such formulas are enough.
pub enough_by : (formulas : TextLengths) (v : CodecState)
    → HasUnitsWithin encode_utf8 (utf_8_length formulas) v
    → HasUnitsWithin encode_utf8 (reporting_length formulas) v
    → HasUnitsWithin encode_utf16 (utf_16_length formulas) v → AreEnoughForCodec formulas v
enough_by formulas v utf_8 reporting utf_16 = record {
  utf_8 = enough encode_utf8 Replacement (utf_8_length formulas) utf_8;
  reporting = enough encode_utf8 Fatal (reporting_length formulas) reporting;
  utf_16 = λ mode. enough encode_utf16 mode (utf_16_length formulas) utf_16;
}
  where
    enough : (units_of : ℕ → List ℕ) (mode : ErrorMode) (length_of : ℕ → ℕ → Option ℕ)
        → HasUnitsWithin units_of length_of v → IsEnoughForCodec units_of mode length_of v
    enough units_of mode length_of within src last n bytes is_length exceeds = omega (
      arith,
      within src n bytes is_length,
      needed_less units_of mode (sequences_of v.rule v.set (v.pending ++ src)),
      needs_all units_of mode v src last n exceeds,
    )

-- a text of at most three code units of UTF-8 and one of UTF-16 for each of n bytes
abbrev HasFew : List ℕ → ℕ → Type 0
HasFew text n = (length (units_of_text encode_utf8 text) ≤ 3 * n)
    × (length (units_of_text encode_utf16 text) ≤ n)

-- each sequence has such a text
abbrev pub HasFewUnits : Rule → Type 0
HasFewUnits rule = (set b : ℕ) (z : List ℕ)
    → HasFew (rule set b z).text (suc (length (take (rule set b z).more z)))

pub basic_by : (c : ℕ) → c < 0x1_0000 → IsBmpText (c ∷ [])
basic_by c l = record {
  utf_8 = omega (arith, length-append (encode_utf8 c) [], length-encode c, at_most_three);
  utf_16 = rw (cond-true (nat_lt c 0x1_0000) _ _ (lt-ltb c 0x1_0000 l)) (omega arith);
}
  where
    at_most_three : len_utf8 c ≤ 3
    at_most_three = grind (arith, nat_tests)

pub none_basic : IsBmpText []
none_basic = record { utf_8 = omega arith; utf_16 = omega arith }

-- Small texts are few for two bytes and more.
pub few_by_single_bytes : (rule : Rule) → HasSmallTexts rule
    → ((set b : ℕ) (z : List ℕ) → length (take (rule set b z).more z) ≡ 0
    → IsBmpText (rule set b z).text)
    → HasFewUnits rule
few_by_single_bytes rule small basic set b z =
    elim (cases_lt 0 (length (take (rule set b z).more z))) [
      | inl some ↦
          let text = small set b z in (omega (arith, text.utf_8), omega (arith, text.utf_16))
      | inr none ↦
          let text = basic set b z (omega arith) in
          (omega (arith, text.utf_8), omega (arith, text.utf_16))
    ]

module _ (v : CodecState) (few : HasFewUnits v.rule) where
  -- at most `each` code units for each byte
  all_bounded : (units_of : ℕ → List ℕ) (each : ℕ)
      → ((set b : ℕ) (z : List ℕ) → length (units_of_text units_of (v.rule set b z).text)
      ≤ each * suc (length (take (v.rule set b z).more z)))
      → (z : List ℕ) → units units_of (sequences_of v.rule v.set z) ≤ each * length z
  all_bounded units_of each most z = bounded units_of v.rule (λ _ n. each * n) (λ set b y.
      let more = (v.rule set b y).more in
      let parted = sym (length-append (take more y) (drop more y))
      ∙ ap length (take-append-drop more y) in
      grind (arith, most set b y, parted)) v.set z

  pub utf_8_bounded : (z : List ℕ)
      → needed_units encode_utf8 Replacement (sequences_of v.rule v.set z) ≤ 3 * length z
  utf_8_bounded z = all_bounded encode_utf8 3 (λ set b y. (few set b y).0) z

  pub utf_16_bounded : (mode : ErrorMode) (z : List ℕ)
      → needed_units encode_utf16 mode (sequences_of v.rule v.set z) ≤ length z
  utf_16_bounded mode z =
      let within = all_bounded encode_utf16 1 (λ set b y. omega (arith, (few set b y).1)) z in
      omega (arith, within, needed_less encode_utf16 mode (sequences_of v.rule v.set z))

  pub multi_byte_enough : AreEnoughForCodec lengths.MultiByte v
  multi_byte_enough = enough_by lengths.MultiByte v thrice thrice (λ src n _ is_length.
      let within = all_bounded encode_utf16 1 (λ set b z. omega (arith, (few set b z).1))
      (v.pending ++ src) in
      omega (
        arith,
        within,
        length-append v.pending src,
        sum_is (length src) (length v.pending) n is_length,
      ))
    where
      thrice : HasUnitsWithin encode_utf8 (utf_8_length lengths.MultiByte) v
      thrice src n _ is_length =
          let within = all_bounded encode_utf8 3 (λ set b z. (few set b z).0) (v.pending ++ src) in
          omega (
            arith,
            within,
            length-append v.pending src,
            thrice_is (checked_add (Some (length src)) (length v.pending))
                (length src + length v.pending) n
                (sum_is (length src) (length v.pending)) is_length,
          )
