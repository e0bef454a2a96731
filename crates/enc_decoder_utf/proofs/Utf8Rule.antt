-- UTF-8's rule is that of its prefixes, and so it keeps their laws.
use Rattle.std.proofs.Common.{◌≡◌, ℕ, ◌≤◌, zero, suc, true, List, [], ◌∷◌, ◌++◌, length, refl, ap, ◌∙◌, sym}
use Rattle.std.proofs.Common.{subst, arith, inl, inr}
use Rattle.std.proofs.lemmas.Bool.Decides.{nat_tests}
use Rattle.enc_utf8.specs.Utf8Sequences.{sequence_len, is_second_byte, is_continuation, scalar_of}
use Rattle.enc_utf8.proofs.Utf8SequenceLemmas.{at_most_four}
use Rattle.enc_decoder.specs.declared.byte_codec.Text.TheVariants.{One}
use Rattle.enc_decoder.specs.declared.prefix.Prefix.{Prefix}
use Rattle.enc_decoder.specs.declared.prefix.Prefix.TheVariants.{Complete, Malformed}
use Rattle.enc_decoder.specs.RuleLaws.{HasTexts, IsLawfulRule}
use Rattle.enc_decoder.specs.Division.{IsDividedBelowDigits}
use Rattle.enc_decoder.specs.Latin1.{HasNoByteSequences}
use Rattle.enc_decoder.specs.Prefixes.{prefix_head, prefix_rule, malformed_prefix_head, AreIncomplete}
use Rattle.enc_decoder.proofs.FirstSequenceLemmas.{true_or_false, within_by}
use Rattle.enc_decoder.proofs.PrefixLemmas.{rule_at, all_malformed}
use Rattle.enc_decoder.proofs.PrefixRule.{prefixes_are_lawful, prefixes_have_texts, prefixes_have_bytes}
use Rattle.enc_decoder.proofs.PrefixDivision.{prefixes_are_divided}
use Rattle.enc_decoder_utf.specs.Utf8.{utf_8_prefix, utf_8_rule}
use Rattle.enc_decoder_utf.proofs.Utf8Lemmas.{holds_of_first}
use Rattle.enc_decoder_utf.proofs.Utf8Prefixes.{utf_8_prefixes, utf_8_ascii, utf_8_settled}

-- bytes that begin a sequence and are not all of it

pub one_begun : (a : ℕ) → 2 ≤ sequence_len a → AreIncomplete utf_8_prefix [] (a ∷ [])
one_begun a leads = (grind (arith, nat_tests), tt)

pub two_begun : (a b : ℕ) → 3 ≤ sequence_len a → is_second_byte a b ≡ true
    → AreIncomplete utf_8_prefix [] (a ∷ b ∷ [])
two_begun a b leads second =
    ((one_begun a (omega arith)).0, (rw second (grind (arith, nat_tests)), tt))

pub three_begun : (a b c : ℕ) → sequence_len a ≡ 4 → is_second_byte a b ≡ true
    → is_continuation c ≡ true → AreIncomplete utf_8_prefix [] (a ∷ b ∷ c ∷ [])
three_begun a b c four second third =
    let two = two_begun a b (omega arith) second in
    (two.0, (two.1.0, (rw (third, four) refl, tt)))

-- the first sequence, by the length of the sequences that begin with the first byte
module _ (set a : ℕ) where
  abbrev Same : List ℕ → Type 0
  Same z = prefix_rule utf_8_prefix set a z ≡ utf_8_rule set a z

  -- a prefix that is not incomplete, after incomplete ones
  settled : (w : List ℕ) (c : ℕ) (z x : List ℕ) (r : Prefix) → AreIncomplete utf_8_prefix [] w
      → a ∷ x ≡ w ++ c ∷ z → utf_8_prefix (w ++ c ∷ []) ≡ r
      → utf_8_rule set a x ≡ prefix_head utf_8_prefix set (w ++ c ∷ []) r z → Same x
  settled w c z x r begun parts kind head =
      rule_at utf_8_prefix set w c z a x begun parts
      ∙ ap (λ k. prefix_head utf_8_prefix set (w ++ c ∷ []) k z) kind ∙ sym head

  -- the end of the input after them
  ended : (w : List ℕ) → AreIncomplete utf_8_prefix [] (a ∷ w)
      → utf_8_rule set a w ≡ malformed_prefix_head set (length (a ∷ w)) → Same w
  ended w begun head = all_malformed utf_8_prefix set a w begun ∙ sym head

  two : (z : List ℕ) → sequence_len a ≡ 2 → Same z
  unfolding utf_8_rule
  two [] len = ended [] (one_begun a (omega arith)) (rw len refl)
  two (b ∷ z) len = elim (true_or_false (is_second_byte a b)) [
    | inl second ↦ settled (a ∷ []) b z (b ∷ z) (Complete (One (scalar_of (a ∷ b ∷ []))))
        (one_begun a (omega arith)) refl (rw (second, len) refl) (rw (len, second) refl)
    | inr cut ↦ settled (a ∷ []) b z (b ∷ z) (Malformed 1) (one_begun a (omega arith)) refl
        (rw cut refl) (rw (len, cut) refl)
  ]

  third : (b : ℕ) (z : List ℕ) → sequence_len a ≡ 3 → is_second_byte a b ≡ true → Same (b ∷ z)
  unfolding utf_8_rule
  third b [] len second =
      ended (b ∷ []) (two_begun a b (omega arith) second) (rw (len, second) refl)
  third b (c ∷ z) len second = elim (true_or_false (is_continuation c)) [
    | inl goes_on ↦
        settled (a ∷ b ∷ []) c z (b ∷ c ∷ z) (Complete (One (scalar_of (a ∷ b ∷ c ∷ []))))
        (two_begun a b (omega arith) second) refl (rw (goes_on, len) refl)
        (rw (len, second, goes_on) refl)
    | inr cut ↦ settled (a ∷ b ∷ []) c z (b ∷ c ∷ z) (Malformed 2)
        (two_begun a b (omega arith) second) refl (rw cut refl) (rw (len, second, cut) refl)
  ]

  three : (z : List ℕ) → sequence_len a ≡ 3 → Same z
  unfolding utf_8_rule
  three [] len = ended [] (one_begun a (omega arith)) (rw len refl)
  three (b ∷ z) len = elim (true_or_false (is_second_byte a b)) [
    | inl second ↦ third b z len second
    | inr cut ↦ settled (a ∷ []) b z (b ∷ z) (Malformed 1) (one_begun a (omega arith)) refl
        (rw cut refl) (rw (len, cut) refl)
  ]

  last : (b c : ℕ) (z : List ℕ) → sequence_len a ≡ 4 → is_second_byte a b ≡ true
      → is_continuation c ≡ true → Same (b ∷ c ∷ z)
  unfolding utf_8_rule
  last b c [] len second third = ended (b ∷ c ∷ []) (three_begun a b c len second third)
      (rw (len, second, third) refl)
  last b c (d ∷ z) len second third = elim (true_or_false (is_continuation d)) [
    | inl goes_on ↦ settled (a ∷ b ∷ c ∷ []) d z (b ∷ c ∷ d ∷ z)
        (Complete (One (scalar_of (a ∷ b ∷ c ∷ d ∷ [])))) (three_begun a b c len second third) refl
        (rw goes_on refl) (rw (len, second, third, goes_on) refl)
    | inr cut ↦ settled (a ∷ b ∷ c ∷ []) d z (b ∷ c ∷ d ∷ z) (Malformed 3)
        (three_begun a b c len second third) refl (rw cut refl)
        (rw (len, second, third, cut) refl)
  ]

  fourth : (b : ℕ) (z : List ℕ) → sequence_len a ≡ 4 → is_second_byte a b ≡ true → Same (b ∷ z)
  unfolding utf_8_rule
  fourth b [] len second =
      ended (b ∷ []) (two_begun a b (omega arith) second) (rw (len, second) refl)
  fourth b (c ∷ z) len second = elim (true_or_false (is_continuation c)) [
    | inl third ↦ last b c z len second third
    | inr cut ↦ settled (a ∷ b ∷ []) c z (b ∷ c ∷ z) (Malformed 2)
        (two_begun a b (omega arith) second) refl (rw cut refl) (rw (len, second, cut) refl)
  ]

  four : (z : List ℕ) → sequence_len a ≡ 4 → Same z
  unfolding utf_8_rule
  four [] len = ended [] (one_begun a (omega arith)) (rw len refl)
  four (b ∷ z) len = elim (true_or_false (is_second_byte a b)) [
    | inl second ↦ fourth b z len second
    | inr cut ↦ settled (a ∷ []) b z (b ∷ z) (Malformed 1) (one_begun a (omega arith)) refl
        (rw cut refl) (rw (len, cut) refl)
  ]

  same_head : (len : ℕ) → sequence_len a ≡ len → len ≤ 4 → (z : List ℕ) → Same z
  unfolding utf_8_rule
  same_head zero none few z = settled [] a z z (Malformed 1) tt refl (rw none refl) (rw none refl)
  same_head (suc zero) one few z =
      settled [] a z z (Complete (One a)) tt refl (rw one refl) (rw one refl)
  same_head (suc (suc zero)) len few z = two z len
  same_head (suc (suc (suc zero))) len few z = three z len
  same_head (suc (suc (suc (suc zero)))) len few z = four z len
  same_head (suc (suc (suc (suc (suc n))))) len few z = absurd (omega arith)

pub utf_8_by_prefixes : prefix_rule utf_8_prefix ≡ utf_8_rule
utf_8_by_prefixes =
    λ i set a z. same_head set a (sequence_len a) refl (at_most_four a) z i

-- the laws

pub utf_8_has_texts : HasTexts utf_8_rule
utf_8_has_texts = subst HasTexts utf_8_by_prefixes (prefixes_have_texts utf_8_prefix utf_8_prefixes)

pub utf_8_is_lawful : IsLawfulRule utf_8_rule
utf_8_is_lawful =
    subst IsLawfulRule utf_8_by_prefixes (prefixes_are_lawful utf_8_prefix utf_8_prefixes)

pub utf_8_is_divided : IsDividedBelowDigits utf_8_rule
utf_8_is_divided = subst IsDividedBelowDigits utf_8_by_prefixes
    (prefixes_are_divided utf_8_prefix utf_8_prefixes utf_8_ascii utf_8_settled)

-- an ASCII byte is a character by itself

pub utf_8_prefixes_have_bytes : ¬ (HasNoByteSequences (prefix_rule utf_8_prefix))
utf_8_prefixes_have_bytes =
    prefixes_have_bytes utf_8_prefix 0x61 _ (utf_8_ascii 0x61 (omega arith))

pub utf_8_has_bytes : ¬ (HasNoByteSequences utf_8_rule)
utf_8_has_bytes =
    subst (λ rule. ¬ (HasNoByteSequences rule)) utf_8_by_prefixes utf_8_prefixes_have_bytes

-- two bytes of a character, and BB, which goes on with EF

pub two_bytes : (utf_8_rule 0 0xC2 (0x80 ∷ [])).more ≡ 1
unfolding utf_8_rule sequence_len is_second_byte is_continuation
two_bytes = refl

pub bb_goes_on : (z : List ℕ) → (utf_8_rule 0 0xEF (0xBB ∷ z)).more ≡ 0 → ⊥
unfolding sequence_len is_second_byte
bb_goes_on z = holds_of_first (λ h. h.more ≡ 0 → ⊥) 0 0xEF (0xBB ∷ z) (λ _ none. cc) (λ none. cc)

-- no sequence is longer than the bytes that are there
pub within : (set b : ℕ) (z : List ℕ) → (utf_8_rule set b z).more ≤ length z
within = within_by utf_8_rule utf_8_is_lawful.lookahead
