-- What has no malformed sequence by UTF-8's rule is well-formed UTF-8.
use Rattle.std.proofs.Common.{◌≡◌, ℕ, ◌+◌, ◌≤◌, zero, suc, true, false, true≢false, List, [], ◌∷◌, ◌++◌, length}
use Rattle.std.proofs.Common.{refl, ap, sym, ◌∙◌, arith, inl, inr}
use Rattle.std.proofs.lemmas.Str.{IsUtf8-nil, IsUtf8-append}
use Rattle.std.specs.Str.{IsUtf8}
use Rattle.std.proofs.str.Valid.{of_one}
use Rattle.enc_utf8.proofs.Utf8RunLemmas.{two_front, three_front, four_front}
use Rattle.enc_decoder.specs.Sequence.{Sequence, any_malformed}
use Rattle.enc_decoder.specs.Segmentation.{sequences_of}
use Rattle.enc_decoder.proofs.FirstSequenceLemmas.{true_or_false}
use Rattle.enc_utf8.specs.Utf8Sequences.{sequence_len, is_second_byte, is_continuation}
use Rattle.enc_utf8.proofs.Utf8SequenceLemmas.{one_range, at_most_four}
use Rattle.enc_decoder_utf.specs.Utf8.{utf_8_rule}
use Rattle.enc_decoder_utf.proofs.Utf8FirstSequences.{valid_sequence, malformed_sequence, none_malformed, one_valid}
use Rattle.enc_decoder_utf.proofs.Utf8FirstSequences.{one_malformed, one_end, two_valid, two_malformed, two_end}
use Rattle.enc_decoder_utf.proofs.Utf8FirstSequences.{three_valid, three_malformed, three_end, four_valid}

-- If they have no malformed sequence they are well-formed.
abbrev AreWell : List ℕ → Type 0
AreWell z = any_malformed (sequences_of utf_8_rule 0 z) ≡ false → IsUtf8 z

after_malformed : {z bytes : List ℕ} {ss : List Sequence}
    → sequences_of utf_8_rule 0 z ≡ malformed_sequence bytes ∷ ss → AreWell z
after_malformed first none = absurd (true≢false (sym (ap any_malformed first) ∙ none))

-- bytes of which all but the first character are at most n
module _ (n : ℕ) (shorter : (z : List ℕ) → length z ≤ n → AreWell z) where
  after_valid : (front z : List ℕ) → IsUtf8 front → length z ≤ n
      → sequences_of utf_8_rule 0 (front ++ z) ≡ valid_sequence front ∷ sequences_of utf_8_rule 0 z
      → AreWell (front ++ z)
  after_valid front z is_utf_8 few first none =
      IsUtf8-append front z is_utf_8 (shorter z few (sym (ap any_malformed first) ∙ none))

  four_bytes : (a b c d : ℕ) (z : List ℕ) → length z ≤ n → sequence_len a ≡ 4
      → is_second_byte a b ≡ true → is_continuation c ≡ true → AreWell (a ∷ b ∷ c ∷ d ∷ z)
  four_bytes a b c d z few four second third = elim (true_or_false (is_continuation d)) [
    | inl fourth ↦ after_valid (a ∷ b ∷ c ∷ d ∷ []) z
        (four_front (a ∷ b ∷ c ∷ d ∷ []) (omega arith) four second third fourth) few
        (four_valid a b c d z four second third fourth)
    | inr cut ↦ after_malformed (three_malformed a b c d z four second third cut)
  ]

  three_bytes : (k a b c : ℕ) (z : List ℕ) → length z ≤ n → sequence_len a ≡ k + 3
      → is_second_byte a b ≡ true → is_continuation c ≡ true → AreWell (a ∷ b ∷ c ∷ z)
  three_bytes zero a b c z few three second third =
      after_valid (a ∷ b ∷ c ∷ []) z
      (three_front (a ∷ b ∷ c ∷ []) (omega arith) three second third) few
      (three_valid a b c z three second third)
  three_bytes (suc k) a b c [] few more second third =
      after_malformed (three_end a b c (omega (arith, at_most_four a)) second third)
  three_bytes (suc k) a b c (d ∷ z) few more second third =
      four_bytes a b c d z (omega arith) (omega (arith, at_most_four a)) second third

  two_bytes : (k a b : ℕ) (z : List ℕ) → length z ≤ n → sequence_len a ≡ k + 2
      → is_second_byte a b ≡ true → AreWell (a ∷ b ∷ z)
  two_bytes zero a b z few two second =
      after_valid (a ∷ b ∷ []) z (two_front (a ∷ b ∷ []) (omega arith) two second) few
      (two_valid a b z two second)
  two_bytes (suc k) a b [] few more second = after_malformed (two_end a b (omega arith) second)
  two_bytes (suc k) a b (c ∷ z) few more second = elim (true_or_false (is_continuation c)) [
    | inl third ↦ three_bytes k a b c z (omega arith) (omega arith) second third
    | inr cut ↦ after_malformed (two_malformed a b c z (omega arith) second cut)
  ]

  one_byte : (k a : ℕ) (z : List ℕ) → length z ≤ n → sequence_len a ≡ k → AreWell (a ∷ z)
  one_byte zero a z few no_lead = after_malformed (none_malformed a z no_lead)
  one_byte (suc zero) a z few one =
      after_valid (a ∷ []) z (of_one (a ∷ []) 0 (omega arith) (one_range a one)) few
      (one_valid a z one)
  one_byte (suc (suc k)) a [] few more = after_malformed (one_end a (omega arith))
  one_byte (suc (suc k)) a (b ∷ z) few more = elim (true_or_false (is_second_byte a b)) [
    | inl second ↦ two_bytes k a b z (omega arith) (omega arith) second
    | inr cut ↦ after_malformed (one_malformed a b z (omega arith) cut)
  ]

pub well_formed : (n : ℕ) (z : List ℕ) → length z ≤ n → AreWell z
well_formed n [] few none = IsUtf8-nil
well_formed zero (a ∷ z) few none = absurd (omega arith)
well_formed (suc n) (a ∷ z) few none =
    one_byte n (well_formed n) (sequence_len a) a z (omega arith) refl none
