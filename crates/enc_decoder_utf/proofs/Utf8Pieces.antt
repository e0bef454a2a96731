-- The characters of well-formed UTF-8 are pieces.
use Rattle.std.proofs.Common.{◌≡◌, ℕ, ◌+◌, ◌/◌, ◌<◌, ◌≤◌, ◌⊎◌, true, false, List, [], ◌∷◌, arith, inl, inr, nat_le}
use Rattle.std.proofs.Common.{subst, sym}
use Rattle.std.proofs.Math.Utf8.{next, scalar_cases}
use Rattle.std.proofs.str.Laws as laws
use Rattle.std.proofs.lemmas.Bool.{cases_lt}
use Rattle.std.proofs.lemmas.Bool.Decides.{nat_tests}
use Rattle.enc_utf8.specs.Pieces.{IsUtf8Char}
use Rattle.enc_utf8.specs.Utf8Sequences.{sequence_len, scalar_of}
use Rattle.enc_utf8.proofs.Utf8SequenceLemmas.{len_by_range, second_at, continues}
use Rattle.enc_decoder_utf.specs.Utf8.{utf_8_rule}
use Rattle.enc_decoder.specs.Taking.{IsWholeChar}
use Rattle.enc_decoder.specs.Prefixes.{prefix_rule}
use Rattle.enc_decoder_utf.specs.Utf8.{utf_8_prefix}
use Rattle.enc_decoder_utf.proofs.Utf8Rule.{utf_8_by_prefixes}
use Rattle.enc_decoder_utf.proofs.Utf8FirstSequences.{one_valid, two_valid, three_valid, four_valid}

pub valued : (bytes : List ℕ) (c : ℕ) → c ≡ scalar_of bytes
    → IsWholeChar utf_8_rule 0 bytes (scalar_of bytes) → IsWholeChar utf_8_rule 0 bytes c
valued bytes c is_char whole = rw is_char whole

-- the length of a sequence, by its first byte and whether that is a lead byte

pub none_len : (b : ℕ) → 0x80 ≤ b → nat_le 2 (sequence_len b) ≡ false → sequence_len b ≡ 0
none_len b beyond no_lead = let lens = len_by_range b in grind (arith, nat_tests)

pub lead_len : (b : ℕ) → nat_le 2 (sequence_len b) ≡ true → (2 ≤ sequence_len b)
    × (b < 0xE0 → sequence_len b ≡ 2) × (0xE0 ≤ b → 3 ≤ sequence_len b)
    × (0xF0 ≤ b → sequence_len b ≡ 4)
unfolding sequence_len
lead_len b leads = (
  grind (arith, nat_tests),
  λ below. grind (arith, nat_tests),
  λ from. grind (arith, nat_tests),
  λ from. grind (arith, nat_tests),
)

module _ (c : ℕ) where
  one : c < 0x80 → IsWholeChar utf_8_rule 0 (c ∷ []) c
  one below y = one_valid c y ((len_by_range c).one below)

  two : 0x80 ≤ c → c < 0x800 → IsWholeChar utf_8_rule 0 ((0xC0 + c / 64) ∷ next c ∷ []) c
  two from below =
      let lead = 0xC0 + c / 64 in
      let second = next c in
      valued (lead ∷ second ∷ []) c (omega arith)
      (λ y. two_valid lead second y ((len_by_range lead).two (omega arith) (omega arith))
      (second_at lead second (omega arith, omega arith) (λ e0. omega arith) (λ ed. omega arith)
      (λ f0. omega arith) (λ f4. omega arith)))

  three : 0x800 ≤ c → c < 0x10000 → (c < 0xD800) ⊎ ((0xE000 ≤ c) × (c < 0x110000))
      → IsWholeChar utf_8_rule 0 ((0xE0 + c / 4096) ∷ next (c / 64) ∷ next c ∷ []) c
  three from below range =
      let lead = 0xE0 + c / 4096 in
      let second = next (c / 64) in
      valued (lead ∷ second ∷ next c ∷ []) c (omega arith)
      (λ y. three_valid lead second _ y ((len_by_range lead).three (omega arith) (omega arith))
      (second_at lead second (omega arith, omega arith) (λ e0. omega arith)
      (λ ed. omega (arith, range)) (λ f0. omega arith) (λ f4. omega arith))
      (continues _ (omega arith, omega arith)))

  four : 0x10000 ≤ c → c < 0x110000
      → IsWholeChar utf_8_rule 0
      ((0xF0 + c / 262144) ∷ next (c / 4096) ∷ next (c / 64) ∷ next c ∷ []) c
  four from below =
      let lead = 0xF0 + c / 262144 in
      let second = next (c / 4096) in
      valued (lead ∷ second ∷ next (c / 64) ∷ next c ∷ []) c (omega arith)
      (λ y. four_valid lead second _ _ y ((len_by_range lead).four (omega arith) (omega arith))
      (second_at lead second (omega arith, omega arith) (λ e0. omega arith) (λ ed. omega arith)
      (λ f0. omega arith) (λ f4. omega arith))
      (continues _ (omega arith, omega arith)) (continues _ (omega arith, omega arith)))

-- the bytes of a character
pub utf8_piece : (bytes : List ℕ) (c : ℕ) → IsUtf8Char bytes c → IsWholeChar utf_8_rule 0 bytes c
utf8_piece bytes c encodes =
    let range = scalar_cases c encodes.0 in
    let is_encoded = encodes.1 in
    elim (cases_lt c 0x80) [
      | inl below ↦ rw (is_encoded, laws.one c below) (one c below)
      | inr from_two ↦ elim (cases_lt c 0x800) [
        | inl below ↦ rw (is_encoded, laws.two c from_two below) (two c from_two below)
        | inr from_three ↦ elim (cases_lt c 0x10000) [
          | inl below ↦
              rw (is_encoded, laws.three c from_three below) (three c from_three below range)
          | inr from_four ↦ rw (is_encoded, laws.four c from_four) (four c from_four (omega arith))
        ]
      ]
    ]

-- by the prefixes
pub utf8_prefix_piece : (bytes : List ℕ) (c : ℕ) → IsUtf8Char bytes c
    → IsWholeChar (prefix_rule utf_8_prefix) 0 bytes c
utf8_prefix_piece bytes c encodes =
    subst (λ rule. IsWholeChar rule 0 bytes c) (sym utf_8_by_prefixes) (utf8_piece bytes c encodes)
