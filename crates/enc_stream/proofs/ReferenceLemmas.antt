-- Texts with references in the place of unmappable characters.
use Rattle.std.proofs.Common.{◌≡◌, ℕ, false, not, ◌||◌, is_some, Option, Some, None, List, [], ◌∷◌, ◌++◌, inl, refl, ap}
use Rattle.std.proofs.Common.{◌∙◌, subst}
use Rattle.enc_encoder.specs.EncoderRule.{EncoderRule, IsLawfulEncoderRule}
use Rattle.enc_encoder.specs.Text.{reference, with_reference, with_references}
use Rattle.enc_encoder.proofs.BarringLemmas.{barring_is_lawful}
use Rattle.enc_encoder.proofs.JoiningLemmas.{with_references-append}
use Rattle.enc_encoder.proofs.TextLemmas.{AreOfReferences, reference_is}
use Rattle.enc_encode.specs.Encoders.{encoder_rule}
use Rattle.enc_encode.proofs.EncoderLaws.{encoder_laws}
use Rattle.enc_encoder.specs.Unmappable.{any_unmappable}
use Rattle.enc_encoder.proofs.UnmappableLemmas.{any_unmappable-append}
use Rattle.enc_stream.specs.declared.encoding.Encoding.{Encoding}
use Rattle.enc_names.specs.EncodingTable.{codec_by_id}
use Rattle.enc_stream.specs.Encodings.{rule_or_utf_8, output_rule}
use Rattle.enc_stream.proofs.EncoderLemmas.{rule_of_facts}

-- what holds of the rule of every encoder, whatever is barred
pub lawful_of : (b : List ℕ) (e : Encoding) → IsLawfulEncoderRule (output_rule b e)
lawful_of b e =
    let codec = codec_by_id e.id in
    barring_is_lawful b (rule_or_utf_8 (encoder_rule codec))
    (subst IsLawfulEncoderRule (rule_of_facts codec) (encoder_laws codec).lawful)

module _ (e : EncoderRule) (lawful : IsLawfulEncoderRule e) where
  -- a mappable character stays, and so does a reference

  mapped_stays : (c : ℕ) (b : List ℕ) (t : List ℕ) → e.bytes c ≡ Some b
      → with_references e (c ∷ t) ≡ c ∷ with_references e t
  mapped_stays c b t h = ap (λ x. with_reference e c x ++ with_references e t) h

  mapped_is : (c : ℕ) (b : List ℕ) (t : List ℕ) → e.bytes c ≡ Some b
      → any_unmappable e (c ∷ t) ≡ any_unmappable e t
  mapped_is c b t h = ap (λ x. not (is_some x) || any_unmappable e t) h

  stays : (t : List ℕ) → AreOfReferences t → with_references e t ≡ t
  stays [] of_references = refl
  stays (c ∷ t) of_references = mapped_stays c (c ∷ []) t (lawful.references c of_references.0)
      ∙ ap (λ x. c ∷ x) (stays t of_references.1)

  are_mapped : (t : List ℕ) → AreOfReferences t → any_unmappable e t ≡ false
  are_mapped [] of_references = refl
  are_mapped (c ∷ t) of_references = mapped_is c (c ∷ []) t (lawful.references c of_references.0)
      ∙ are_mapped t of_references.1

  of_reference : (c : ℕ) → AreOfReferences (reference c)
  of_reference c = (inl refl, reference_is c)

  -- what stands for a character stays, and is mappable

  one_stays : (c : ℕ) (b : Option (List ℕ)) → e.bytes c ≡ b
      → with_references e (with_reference e c b) ≡ with_reference e c b
  one_stays c None h = stays (reference (e.reported c)) (of_reference (e.reported c))
  one_stays c (Some b) h = mapped_stays c b [] h

  one_is_mapped : (c : ℕ) (b : Option (List ℕ)) → e.bytes c ≡ b
      → any_unmappable e (with_reference e c b) ≡ false
  one_is_mapped c None h = are_mapped (reference (e.reported c)) (of_reference (e.reported c))
  one_is_mapped c (Some b) h = mapped_is c b [] h

  pub once : (t : List ℕ) → with_references e (with_references e t) ≡ with_references e t
  once [] = refl
  once (c ∷ t) =
      with_references-append e (with_reference e c (e.bytes c)) (with_references e t)
      ∙ ap (λ x. x ++ with_references e (with_references e t)) (one_stays c (e.bytes c) refl)
      ∙ ap (λ x. with_reference e c (e.bytes c) ++ x) (once t)

  pub all_mapped : (t : List ℕ) → any_unmappable e (with_references e t) ≡ false
  all_mapped [] = refl
  all_mapped (c ∷ t) =
      any_unmappable-append e (with_reference e c (e.bytes c)) (with_references e t)
      ∙ ap (λ b. b || any_unmappable e (with_references e t)) (one_is_mapped c (e.bytes c) refl)
      ∙ all_mapped t
