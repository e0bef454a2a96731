-- Which lengths are enough for legacy multi-byte encodings.
use Rattle.std.proofs.Common.{◌≡◌, ◌⊎◌, ℕ, ◌≤◌, zero, suc, List, [], ◌∷◌, ◌++◌, length, take, refl, arith, inl, inr}
use Rattle.std.proofs.lemmas.List.{length-append}
use Rattle.enc_decoder.specs.declared.text_lengths.TextLengths.TheVariants as lengths
use Rattle.enc_decoder.specs.Segmentation.{Head}
use Rattle.enc_decoder.specs.Need.{AreEnoughForCodec, IsBmpText}
use Rattle.enc_decoder.proofs.EnoughLemmas.{HasFewUnits, few_by_single_bytes, multi_byte_enough, basic_by}
use Rattle.enc_decoder.specs.declared.prefix.Prefix.{Prefix}
use Rattle.enc_decoder.specs.declared.prefix.Prefix.TheVariants.{Complete, Malformed, Incomplete}
use Rattle.enc_decoder.specs.Prefixes.{prefix_head, prefix_rule, prefix_state}
use Rattle.enc_decoder.proofs.PrefixRule.{prefixes_are_lawful}
use Rattle.enc_decoder_multi_byte.specs.MultiByte.{AreMultiBytePrefixes}

module _ (prefix : List ℕ → Prefix) (laws : AreMultiBytePrefixes prefix) where
  -- A sequence of one byte is malformed if that byte is incomplete.
  abbrev IsFew : Head → Type 0
  IsFew h = IsBmpText h.text ⊎ (1 ≤ h.more)

  replaced : IsBmpText (0xFFFD ∷ [])
  replaced = basic_by 0xFFFD (omega arith)

  few_after : (set : ℕ) (front : List ℕ) (r : Prefix) (z : List ℕ) → 2 ≤ length front
      → IsFew (prefix_head prefix set front r z)
  few_after set front (Complete text) z two_or_more = inr (omega (arith, two_or_more))
  few_after set front (Malformed n) z two_or_more = inl replaced
  few_after set front Incomplete [] two_or_more = inl replaced
  few_after set front Incomplete (c ∷ z) two_or_more =
      few_after set (front ++ c ∷ []) (prefix (front ++ c ∷ [])) z
      (omega (arith, two_or_more, length-append front (c ∷ [])))

  first_is_basic : (set b : ℕ) (z : List ℕ) (r : Prefix) → prefix (b ∷ []) ≡ r
      → length (take (prefix_head prefix set (b ∷ []) r z).more z) ≡ 0
      → IsBmpText (prefix_head prefix set (b ∷ []) r z).text
  first_is_basic set b z (Complete text) e n = laws.alone b text e
  first_is_basic set b z (Malformed m) e n = replaced
  first_is_basic set b [] Incomplete e n = replaced
  first_is_basic set b (c ∷ z) Incomplete e n =
      elim (few_after set (b ∷ c ∷ []) (prefix (b ∷ c ∷ [])) z (omega arith)) [
        | inl t ↦ t
        | inr m ↦ absurd (none_taken
            (prefix_head prefix set (b ∷ c ∷ []) (prefix (b ∷ c ∷ [])) z).more m n)
      ]
    where
      none_taken : (k : ℕ) → 1 ≤ k → length (take k (c ∷ z)) ≡ 0 → ⊥
      none_taken zero l f = omega arith
      none_taken (suc k) l f = omega (arith, f)

  few : HasFewUnits (prefix_rule prefix)
  unfolding prefix_rule
  few = few_by_single_bytes (prefix_rule prefix)
      (prefixes_are_lawful prefix laws.prefixes).small_texts
      (λ set b z. first_is_basic set b z (prefix (b ∷ [])) refl)

  pub multi_bytes_enough : (pending : List ℕ)
      → AreEnoughForCodec lengths.MultiByte (prefix_state prefix pending)
  multi_bytes_enough pending = multi_byte_enough (prefix_state prefix pending) few
