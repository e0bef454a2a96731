-- The first sequence of UTF-8, by the bytes in front.
use Rattle.std.proofs.Common.{◌≡◌, ℕ, ◌-◌, ◌≤◌, true, false, List, [], ◌∷◌, ◌++◌, length, take, drop}
use Rattle.std.proofs.Common.{refl, ◌∙◌, arith}
use Rattle.std.proofs.Math.Seq.{take-length, drop-length}
use Rattle.std.proofs.lemmas.List.{length-append}
use Rattle.enc_utf8.specs.Utf8Sequences.{sequence_len, is_second_byte, is_continuation, scalar_of}
use Rattle.enc_decoder.specs.declared.byte_codec.Kind.TheVariants as kinds
use Rattle.enc_decoder.specs.declared.byte_codec.Text.TheVariants.{One}
use Rattle.enc_decoder.specs.declared.prefix.Prefix.TheVariants.{Complete, Malformed}
use Rattle.enc_decoder.specs.Sequence.{Sequence}
use Rattle.enc_decoder.specs.Segmentation.{sequences_of, malformed_head}
use Rattle.enc_decoder.specs.Taking.{IsSequenceBefore}
use Rattle.enc_decoder.specs.Prefixes.{AreIncomplete}
use Rattle.enc_decoder.proofs.SegmentationLemmas.{sequences_of-head, sequences_of-nil}
use Rattle.enc_decoder.proofs.PrefixLemmas.{settles_complete, settles_malformed, settled_first, all_malformed}
use Rattle.enc_decoder_utf.specs.Utf8.{utf_8_rule, utf_8_prefix}
use Rattle.enc_decoder_utf.proofs.Utf8Prefixes.{utf_8_prefixes}
use Rattle.enc_decoder_utf.proofs.Utf8Rule.{utf_8_by_prefixes, one_begun, two_begun, three_begun}

abbrev pub valid_sequence : List ℕ → Sequence
valid_sequence bytes =
    record { bytes = bytes; text = scalar_of bytes ∷ []; kind = kinds.Valid; set = 0 }

abbrev pub malformed_sequence : List ℕ → Sequence
malformed_sequence bytes =
    record { bytes = bytes; text = 0xFFFD ∷ []; kind = kinds.Malformed; set = 0 }

-- these bytes are a character, or malformed, if z follows them

abbrev pub IsCharBefore : List ℕ → List ℕ → Type 0
IsCharBefore z bytes = IsSequenceBefore z kinds.Valid utf_8_rule 0 bytes (scalar_of bytes)

abbrev pub IsMalformedBefore : List ℕ → List ℕ → Type 0
IsMalformedBefore z bytes = IsSequenceBefore z kinds.Malformed utf_8_rule 0 bytes 0xFFFD

-- by the prefix that ends with c, after incomplete ones
module _ (w : List ℕ) (c : ℕ) (z : List ℕ) (begun : AreIncomplete utf_8_prefix [] w) where
  abbrev front : List ℕ
  front = w ++ c ∷ []

  is_char : (x : ℕ) → utf_8_prefix front ≡ Complete (One x)
      → sequences_of utf_8_rule 0 (w ++ c ∷ z)
      ≡ record { bytes = take (length front) front; text = x ∷ []; kind = kinds.Valid; set = 0 }
      ∷ sequences_of utf_8_rule 0 (drop (length front) front ++ z)
  is_char x complete =
      rw (← utf_8_by_prefixes) (settled_first utf_8_prefix 0 w c z (length front) (One x)
      kinds.Valid begun (settles_complete utf_8_prefix front (One x)
      (omega (arith, length-append w (c ∷ []))) complete))

  is_malformed : (n : ℕ) → utf_8_prefix front ≡ Malformed n
      → sequences_of utf_8_rule 0 (w ++ c ∷ z)
      ≡ malformed_sequence (take n front) ∷ sequences_of utf_8_rule 0 (drop n front ++ z)
  is_malformed n malformed =
      rw (← utf_8_by_prefixes) (settled_first utf_8_prefix 0 w c z n (One 0xFFFD) kinds.Malformed
      begun (settles_malformed utf_8_prefix utf_8_prefixes front n malformed))

-- the first sequence

pub none_malformed : (b : ℕ) (z : List ℕ) → sequence_len b ≡ 0 → IsMalformedBefore z (b ∷ [])
none_malformed b z none = is_malformed [] b z tt 1 (rw none refl)

pub one_valid : (b : ℕ) (z : List ℕ) → sequence_len b ≡ 1 → IsCharBefore z (b ∷ [])
one_valid b z one = is_char [] b z tt b (rw one refl)

module _ (a b : ℕ) (z : List ℕ) where
  pub one_malformed : 2 ≤ sequence_len a → is_second_byte a b ≡ false
      → IsMalformedBefore (b ∷ z) (a ∷ [])
  one_malformed leads cut = is_malformed (a ∷ []) b z (one_begun a leads) 1 (rw cut refl)

  pub two_valid : sequence_len a ≡ 2 → is_second_byte a b ≡ true → IsCharBefore z (a ∷ b ∷ [])
  two_valid two second =
      is_char (a ∷ []) b z (one_begun a (omega arith)) _ (rw (second, two) refl)

module _ (a b c : ℕ) (z : List ℕ) where
  pub two_malformed : 3 ≤ sequence_len a → is_second_byte a b ≡ true → is_continuation c ≡ false
      → IsMalformedBefore (c ∷ z) (a ∷ b ∷ [])
  two_malformed leads second cut =
      is_malformed (a ∷ b ∷ []) c z (two_begun a b leads second) 2 (rw cut refl)

  pub three_valid : sequence_len a ≡ 3 → is_second_byte a b ≡ true → is_continuation c ≡ true
      → IsCharBefore z (a ∷ b ∷ c ∷ [])
  three_valid three second third =
      is_char (a ∷ b ∷ []) c z (two_begun a b (omega arith) second) _ (rw (third, three) refl)

module _ (a b c d : ℕ) (z : List ℕ) (four : sequence_len a ≡ 4)
    (second : is_second_byte a b ≡ true) (third : is_continuation c ≡ true) where
  pub three_malformed : is_continuation d ≡ false → IsMalformedBefore (d ∷ z) (a ∷ b ∷ c ∷ [])
  three_malformed cut =
      is_malformed (a ∷ b ∷ c ∷ []) d z (three_begun a b c four second third) 3 (rw cut refl)

  pub four_valid : is_continuation d ≡ true → IsCharBefore z (a ∷ b ∷ c ∷ d ∷ [])
  four_valid fourth =
      is_char (a ∷ b ∷ c ∷ []) d z (three_begun a b c four second third) _ (rw fourth refl)

-- At the end of the input they are malformed.

begun_end : (a : ℕ) (w : List ℕ) → AreIncomplete utf_8_prefix [] (a ∷ w)
    → sequences_of utf_8_rule 0 (a ∷ w) ≡ malformed_sequence (a ∷ w) ∷ []
begun_end a w begun =
    let one_less : length (a ∷ w) - 1 ≡ length w = omega arith in
    let head : utf_8_rule 0 a w ≡ malformed_head 0 (length w) =
    rw (← utf_8_by_prefixes, ← one_less) (all_malformed utf_8_prefix 0 a w begun) in
    sequences_of-head utf_8_rule 0 a w _ head
    ∙ rw (take-length w, drop-length w, sequences_of-nil utf_8_rule 0) refl

pub one_end : (a : ℕ) → 2 ≤ sequence_len a
    → sequences_of utf_8_rule 0 (a ∷ []) ≡ malformed_sequence (a ∷ []) ∷ []
one_end a leads = begun_end a [] (one_begun a leads)

pub two_end : (a b : ℕ) → 3 ≤ sequence_len a → is_second_byte a b ≡ true
    → sequences_of utf_8_rule 0 (a ∷ b ∷ []) ≡ malformed_sequence (a ∷ b ∷ []) ∷ []
two_end a b leads second = begun_end a (b ∷ []) (two_begun a b leads second)

pub three_end : (a b c : ℕ) → sequence_len a ≡ 4 → is_second_byte a b ≡ true
    → is_continuation c ≡ true
    → sequences_of utf_8_rule 0 (a ∷ b ∷ c ∷ []) ≡ malformed_sequence (a ∷ b ∷ c ∷ []) ∷ []
three_end a b c four second third =
    begun_end a (b ∷ c ∷ []) (three_begun a b c four second third)
