-- A byte that leaves no prefix incomplete ends a sequence.
use Rattle.std.proofs.Common.{◌≡◌, ◌≢◌, ℕ, List, [], ◌∷◌, ◌++◌, refl, ap, ◌∙◌, sym, arith}
use Rattle.enc_decoder.specs.declared.byte_codec.Text.TheVariants.{One}
use Rattle.enc_decoder.specs.Division.{IsDividedBelowDigits}
use Rattle.enc_decoder.proofs.DivisionLemmas.{EndsSequence, divided_by}
use Rattle.enc_decoder.specs.declared.prefix.Prefix.{Prefix}
use Rattle.enc_decoder.specs.declared.prefix.Prefix.TheVariants.{Complete, Malformed, Incomplete}
use Rattle.enc_decoder.specs.Prefixes.{prefix_rule, prefix_head, ArePrefixes, HasAscii, AreSettledBelowDigits}
use Rattle.enc_decoder.proofs.PrefixRule.{prefixes_are_lawful}

module _ (prefix : List ℕ → Prefix) where
  settled : (front y : List ℕ) (r : Prefix) → r ≢ Incomplete
      → prefix_head prefix 0 front r y ≡ prefix_head prefix 0 front r []
  settled front y (Complete text) finished = refl
  settled front y (Malformed n) finished = refl
  settled front y Incomplete finished = absurd (finished refl)

  no_set : (front z : List ℕ) (r : Prefix) → (prefix_head prefix 0 front r z).set ≡ 0
  no_set front z (Complete text) = refl
  no_set front z (Malformed n) = refl
  no_set front [] Incomplete = refl
  no_set front (b ∷ z) Incomplete = no_set (front ++ b ∷ []) z (prefix (front ++ b ∷ []))

  module _ (c : ℕ) (finishes : (a : ℕ) (front : List ℕ)
      → prefix (a ∷ (front ++ c ∷ [])) ≢ Incomplete)
    where
      same_head : (a : ℕ) (front z y : List ℕ) (r : Prefix)
          → prefix_head prefix 0 (a ∷ front) r (z ++ c ∷ y)
          ≡ prefix_head prefix 0 (a ∷ front) r (z ++ c ∷ [])
      same_head a front z y (Complete text) = refl
      same_head a front z y (Malformed n) = refl
      same_head a front [] y Incomplete =
          settled (a ∷ (front ++ c ∷ [])) y (prefix (a ∷ (front ++ c ∷ []))) (finishes a front)
      same_head a front (b ∷ z) y Incomplete =
          same_head a (front ++ b ∷ []) z y (prefix (a ∷ (front ++ b ∷ [])))

      ends_sequence : prefix (c ∷ []) ≡ Complete (One c) → EndsSequence c (prefix_rule prefix)
      unfolding prefix_rule
      ends_sequence complete = record {
        same = λ b z y. same_head b [] z y (prefix (b ∷ []));
        alone = λ y. ap (λ r. prefix_head prefix 0 (c ∷ []) r y) complete
            ∙ sym (ap (λ r. prefix_head prefix 0 (c ∷ []) r []) complete);
        set = λ b z. no_set (b ∷ []) z (prefix (b ∷ []));
      }

pub prefixes_are_divided : (prefix : List ℕ → Prefix) → ArePrefixes prefix → HasAscii prefix
    → AreSettledBelowDigits prefix → IsDividedBelowDigits (prefix_rule prefix)
prefixes_are_divided prefix laws has_ascii settled_below c low =
    divided_by c (prefix_rule prefix) (prefixes_are_lawful prefix laws)
    (ends_sequence prefix c (settled_below c low) (has_ascii c (omega arith)))
