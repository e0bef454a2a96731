-- Without escape sequences the bytes of texts are joined.
use Rattle.std.proofs.Common.{◌≡◌, ℕ, true, List, [], ◌∷◌, ◌++◌, refl, ap, ◌∙◌}
use Rattle.enc_encoder.specs.declared.character_set.CharacterSet.TheVariants.{Ascii}
use Rattle.enc_encoder.specs.EncoderRule.{EncoderRule, IsLawfulEncoderRule}
use Rattle.enc_encoder.specs.Text.{list_or_empty, bytes_after_text, bytes_of_text, with_reference, with_references}
use Rattle.enc_encoder.specs.Joining.{JoinsTexts}
use Rattle.enc_encoder.proofs.StepLemmas.{joined-append}

-- the bytes of each character of a text, with no escape sequence
char_bytes : EncoderRule → List ℕ → List ℕ
char_bytes e [] = []
char_bytes e (c ∷ t) = list_or_empty (e.bytes c) ++ char_bytes e t

char_bytes-append : (e : EncoderRule) (s t : List ℕ)
    → char_bytes e (s ++ t) ≡ char_bytes e s ++ char_bytes e t
unfolding char_bytes
char_bytes-append e =
    joined-append (λ c. list_or_empty (e.bytes c)) (char_bytes e) refl (λ c cs. refl)

pub with_references-append : (e : EncoderRule) (s t : List ℕ)
    → with_references e (s ++ t) ≡ with_references e s ++ with_references e t
with_references-append e =
    joined-append (λ c. with_reference e c (e.bytes c)) (with_references e) refl (λ c cs. refl)

module _ (e : EncoderRule) (lawful : IsLawfulEncoderRule e)
    (stays : (c : ℕ) → e.has Ascii c ≡ true) where
  has_no_escapes : (u t : List ℕ) → e.set_after Ascii u ≡ Ascii
      → bytes_after_text e Ascii u t ≡ char_bytes e t
  unfolding char_bytes
  has_no_escapes u [] in_ascii = rw in_ascii refl
  has_no_escapes u (c ∷ t) in_ascii =
      let next : e.set_after Ascii (u ++ c ∷ []) ≡ Ascii =
      lawful.set_after_more Ascii u c ∙ rw (in_ascii, stays c) refl in
      rw (in_ascii, stays c)
      (ap (λ z. list_or_empty (e.bytes c) ++ z) (has_no_escapes (u ++ c ∷ []) t next))

  text_is : (t : List ℕ) → bytes_of_text e Ascii t ≡ char_bytes e t
  text_is t = has_no_escapes [] t (lawful.set_after_none Ascii)

  pub joins_texts : JoinsTexts e
  joins_texts s t =
      ap (bytes_of_text e Ascii) (with_references-append e s t)
      ∙ text_is (with_references e s ++ with_references e t)
      ∙ char_bytes-append e (with_references e s) (with_references e t)
      ∙ rw (text_is (with_references e s), text_is (with_references e t)) refl
