-- Malformed sequences of a multi-byte encoding at a place, by two bytes there.
use Rattle.std.proofs.Common.{ℕ, ◌+◌, ◌<◌, ◌≤◌, zero, suc, List, [], ◌∷◌, length, get_or, arith, inl, inr}
use Rattle.enc_decoder.specs.declared.byte_codec.Kind.TheVariants as kinds
use Rattle.enc_decoder.specs.declared.byte_codec.Text.TheVariants.{One}
use Rattle.enc_decoder.specs.Taking.{IsReplacedCharAt}
use Rattle.enc_decoder.proofs.PieceLemmas.{one_of, two_of}
use Rattle.enc_decoder.proofs.ReplacedCharLemmas.{whole_at, before_byte}
use Rattle.enc_decoder.specs.declared.prefix.Prefix.{Prefix}
use Rattle.enc_decoder.specs.Prefixes.{prefix_rule, ArePrefixes}
use Rattle.enc_decoder.proofs.PrefixLemmas.{settles_malformed, settled_first}
use Rattle.enc_decoder_multi_byte.specs.MultiByte.{IsMalformedFront}

module _ (prefix : List ℕ → Prefix) (laws : ArePrefixes prefix) where
  -- there are one or two of them
  pub one_or_two : (lead b n : ℕ) → IsMalformedFront prefix lead b n → (0 < n) × (n ≤ 2)
  one_or_two lead b n malformed = elim malformed [
    | inl by_itself ↦
        let bounds = laws.malformed (lead ∷ []) n by_itself in
        (bounds.0, omega (arith, bounds.1))
    | inr by_second ↦
        let bounds = laws.malformed (lead ∷ b ∷ []) n by_second.1 in
        (bounds.0, omega (arith, bounds.1))
  ]

  module _ (src : List ℕ) (at : ℕ) (there : at + 1 < length src) where
    abbrev lead : ℕ
    lead = get_or src at 0

    abbrev next : ℕ
    next = get_or src (at + 1) 0

    abbrev IsReplaced : ℕ → Type 0
    IsReplaced n = IsReplacedCharAt (prefix_rule prefix) 0 src at n 0xFFFD

    one_malformed : IsMalformedFront prefix lead next 1 → IsReplaced 1
    one_malformed malformed = elim malformed [
      | inl by_itself ↦ whole_at kinds.Malformed (lead ∷ []) (one_of src at (omega arith))
          (λ y. settled_first prefix 0 [] lead y 1 (One 0xFFFD) kinds.Malformed tt
          (settles_malformed prefix laws (lead ∷ []) 1 by_itself))
      | inr by_second ↦ before_byte kinds.Malformed (lead ∷ []) (one_of src at (omega arith)) there
          (λ z. settled_first prefix 0 (lead ∷ []) next z 1 (One 0xFFFD) kinds.Malformed
          (by_second.0, tt)
          (settles_malformed prefix laws (lead ∷ next ∷ []) 1 by_second.1))
    ]

    two_malformed : IsMalformedFront prefix lead next 2 → IsReplaced 2
    two_malformed malformed = elim malformed [
      | inl by_itself ↦
          let bounds = laws.malformed (lead ∷ []) 2 by_itself in absurd (omega (arith, bounds.1))
      | inr by_second ↦ whole_at kinds.Malformed (lead ∷ next ∷ []) (two_of src at there)
          (λ y. settled_first prefix 0 (lead ∷ []) next y 2 (One 0xFFFD) kinds.Malformed
          (by_second.0, tt)
          (settles_malformed prefix laws (lead ∷ next ∷ []) 2 by_second.1))
    ]

    pub malformed_at : (n : ℕ) → IsMalformedFront prefix lead next n → IsReplaced n
    malformed_at zero malformed =
        absurd (omega (arith, (one_or_two lead next 0 malformed).0))
    malformed_at (suc zero) malformed = one_malformed malformed
    malformed_at (suc (suc zero)) malformed = two_malformed malformed
    malformed_at (suc (suc (suc n))) malformed =
        absurd (omega (arith, (one_or_two lead next (suc (suc (suc n))) malformed).1))
