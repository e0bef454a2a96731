-- What the bytes in front can be in EUC-JP.
use Rattle.std.proofs.Common.{◌≡◌, ℕ, ◌<◌, Bool, true, false, cond, ◌&&◌, ◌==◌, Option, None, List, [], ◌∷◌}
use Rattle.std.proofs.Common.{length, refl, ◌∙◌, arith, subst}
use Rattle.std.proofs.lemmas.Bool.{cond-true, lt-ltb}
use Rattle.std.proofs.lemmas.Bool.Decides.{nat_tests}
use Rattle.enc_decoder.specs.declared.prefix.Prefix.{Prefix}
use Rattle.enc_decoder.specs.declared.prefix.Prefix.TheVariants.{Malformed, Incomplete}
use Rattle.enc_decoder_multi_byte.specs.DoubleByte.{text_of_char}
use Rattle.enc_decoder.specs.Prefixes.{CanBeOther, AreSettledBelowDigits}
use Rattle.enc_decoder_multi_byte.specs.MultiByte.{AreMultiBytePrefixes}
use Rattle.enc_decoder_multi_byte.specs.EucJp.{is_euc_byte, is_euc_jp_lead, euc_jp_single_char, euc_jp_pair_char}
use Rattle.enc_decoder_multi_byte.specs.EucJp.{euc_jp_triple_char, euc_jp_prefix}
use Rattle.enc_decoder_multi_byte.proofs.DoubleByteLemmas.{first_is_basic, ascii_is_basic, char_is_text, first_alone}
use Rattle.enc_decoder_multi_byte.proofs.DoubleByteLemmas.{first_lawful, trail_lawful, trail_finished}
use Rattle.enc_decoder_multi_byte.proofs.DoubleByteLemmas.{trail_can_be_malformed}
use Rattle.enc_decoder.proofs.PrefixLaws.{IsLawfulPrefix, either_lawful, prefixes_by, malformed_with_ff}
use Rattle.enc_decoder.proofs.PrefixLaws.{unless_finished}

lawful : (front : List ℕ) → IsLawfulPrefix 2 (length front) (euc_jp_prefix front)
lawful [] = omega arith
lawful (a ∷ []) = first_lawful 2 (is_euc_jp_lead a) (euc_jp_single_char a) (omega arith)
lawful (a ∷ b ∷ []) =
    either_lawful 2 2 (a == 0x8F && is_euc_byte b) Incomplete _ (omega arith)
    (trail_lawful 2 2 1 b _ (char_is_text (euc_jp_pair_char a b)) (omega arith) (omega arith))
lawful (a ∷ b ∷ c ∷ z) =
    trail_lawful 2 _ 2 c _ (char_is_text (euc_jp_triple_char b c)) (omega arith) (omega arith)

-- FF is no trail of any lead

no_char : (s t : Bool) (c : Option ℕ) → text_of_char (cond s None (cond (t && false) c None)) ≡ None
no_char true t c = refl
no_char false true c = refl
no_char false false c = refl

no_more : (t : Bool) (r : Prefix) → cond (t && false) Incomplete r ≡ r
no_more true r = refl
no_more false r = refl

pair_can_be_malformed : (a : ℕ) → euc_jp_prefix (a ∷ 0xFF ∷ []) ≡ Malformed 2
pair_can_be_malformed a = no_more (a == 0x8F) _
    ∙ trail_can_be_malformed 1 _ (no_char (a == 0x8E) (is_euc_byte a) _)

can_be_other : (front : List ℕ) → 0 < length front → euc_jp_prefix front ≡ Incomplete
    → CanBeOther euc_jp_prefix front
can_be_other [] some incomplete = absurd (omega arith)
can_be_other (a ∷ []) some incomplete =
    malformed_with_ff euc_jp_prefix (a ∷ []) 2 (omega arith) (omega arith)
    (pair_can_be_malformed a) (λ same. omega arith)
can_be_other (a ∷ b ∷ []) some incomplete =
    malformed_with_ff euc_jp_prefix (a ∷ b ∷ []) 3 (omega arith) (omega arith)
    refl (λ same. omega arith)
can_be_other (a ∷ b ∷ c ∷ z) some incomplete =
    absurd (trail_finished 2 c (text_of_char (euc_jp_triple_char b c)) incomplete)

settled : AreSettledBelowDigits euc_jp_prefix
settled c low a [] incomplete =
    unless_finished _ _ (grind (arith, nat_tests))
    (trail_finished 1 c (text_of_char (euc_jp_pair_char a c))) incomplete
settled c low a (b ∷ []) incomplete =
    trail_finished 2 c (text_of_char (euc_jp_triple_char b c)) incomplete
settled c low a (b ∷ d ∷ front) incomplete =
    trail_finished 2 d (text_of_char (euc_jp_triple_char b d)) incomplete

pub laws : AreMultiBytePrefixes euc_jp_prefix
laws = record {
  prefixes = prefixes_by euc_jp_prefix 2 (omega arith) refl lawful can_be_other;
  ascii = λ b l. first_alone (is_euc_jp_lead b) _ b (grind (arith, nat_tests))
      (cond-true _ _ _ (lt-ltb b 0x80 l));
  lead = 0x8E;
  leads = record { is_byte = omega arith; incomplete = refl; malformed = refl };
  alone = λ b text e.
      first_is_basic (is_euc_jp_lead b) (euc_jp_single_char b) text (ascii_is_basic b) e;
  settled = settled;
}
