-- What the bytes in front can be in gb18030.
use Rattle.std.proofs.Common.{◌≡◌, ◌≢◌, ℕ, ◌<◌, ◌≤◌, Bool, true, false, cond, Option, Some, None, List, [], ◌∷◌, length}
use Rattle.std.proofs.Common.{refl, arith, subst}
use Rattle.std.proofs.lemmas.Bool.{cond-true, lt-ltb}
use Rattle.std.proofs.lemmas.Bool.Decides.{nat_tests}
use Rattle.enc_decoder.specs.declared.prefix.Prefix.TheVariants.{Malformed, Incomplete}
use Rattle.enc_decoder.specs.Prefixes.{CanBeOther, AreSettledBelowDigits}
use Rattle.enc_decoder_multi_byte.specs.MultiByte.{AreMultiBytePrefixes}
use Rattle.enc_decoder_multi_byte.specs.DoubleByte.{text_of_char}
use Rattle.enc_decoder_multi_byte.specs.Gb18030.{is_gb18030_lead, is_digit, gb18030_single_char, gb18030_pair_char}
use Rattle.enc_decoder_multi_byte.specs.Gb18030.{ranges_code_point, four_byte_pointer, four_byte_prefix, gb18030_prefix}
use Rattle.enc_decoder_multi_byte.proofs.DoubleByteLemmas.{first_alone, first_is_basic, char_is_text}
use Rattle.enc_decoder_multi_byte.proofs.DoubleByteLemmas.{first_lawful, trail_lawful, trail_finished}
use Rattle.enc_decoder.proofs.PrefixLaws.{one_is_text, IsLawfulPrefix, either_lawful, prefixes_by, malformed_with_ff}
use Rattle.enc_decoder.proofs.PrefixLaws.{unless_finished}

-- four bytes

four_lawful : (len : ℕ) (t : Bool) (c : Option ℕ) → 4 ≤ len
    → IsLawfulPrefix 3 len (cond t (four_byte_prefix c) (Malformed 1))
four_lawful len false c within = (omega arith, omega arith)
four_lawful len true None within = (omega arith, omega arith)
four_lawful len true (Some c) within = one_is_text c

lawful : (front : List ℕ) → IsLawfulPrefix 3 (length front) (gb18030_prefix front)
lawful [] = omega arith
lawful (a ∷ []) = first_lawful 3 (is_gb18030_lead a) (gb18030_single_char a) (omega arith)
lawful (a ∷ b ∷ []) =
    either_lawful 3 2 (is_digit b) Incomplete _ (omega arith)
    (trail_lawful 3 2 1 b _ (char_is_text (gb18030_pair_char a b)) (omega arith) (omega arith))
lawful (a ∷ b ∷ c ∷ []) =
    either_lawful 3 3 (is_gb18030_lead c) Incomplete (Malformed 1) (omega arith)
    (omega arith, omega arith)
lawful (a ∷ b ∷ c ∷ d ∷ z) =
    four_lawful _ (is_digit d) (ranges_code_point (four_byte_pointer a b c d)) (omega arith)

short : (front : List ℕ) → gb18030_prefix front ≡ Incomplete → length front ≤ 3
short front incomplete = subst (IsLawfulPrefix 3 (length front)) incomplete (lawful front)

-- FF is neither a trail, nor a third or a fourth byte
can_be_other : (front : List ℕ) → 0 < length front → gb18030_prefix front ≡ Incomplete
    → CanBeOther gb18030_prefix front
can_be_other [] some incomplete = absurd (omega arith)
can_be_other (a ∷ []) some incomplete =
    malformed_with_ff gb18030_prefix (a ∷ []) 2 (omega arith) (omega arith)
    refl (λ same. omega arith)
can_be_other (a ∷ b ∷ []) some incomplete =
    malformed_with_ff gb18030_prefix (a ∷ b ∷ []) 1 (omega arith) (omega arith)
    refl (λ same. omega arith)
can_be_other (a ∷ b ∷ c ∷ []) some incomplete =
    malformed_with_ff gb18030_prefix (a ∷ b ∷ c ∷ []) 1 (omega arith) (omega arith)
    refl (λ same. omega arith)
can_be_other (a ∷ b ∷ c ∷ d ∷ z) some incomplete =
    let too_short = short (a ∷ b ∷ c ∷ d ∷ z) incomplete in absurd (omega arith)

-- a byte below 30 is neither a digit nor a third byte

four_finished : (t : Bool) (c : Option ℕ) → cond t (four_byte_prefix c) (Malformed 1) ≢ Incomplete
four_finished true None incomplete = cc
four_finished true (Some c) incomplete = cc
four_finished false c incomplete = cc

settled : AreSettledBelowDigits gb18030_prefix
settled c low a [] incomplete =
    unless_finished (is_digit c) _ (grind (arith, nat_tests))
    (trail_finished 1 c (text_of_char (gb18030_pair_char a c))) incomplete
settled c low a (b ∷ []) incomplete =
    unless_finished (is_gb18030_lead c) (Malformed 1) (grind (arith, nat_tests)) (λ e. cc)
    incomplete
settled c low a (b ∷ d ∷ []) incomplete =
    four_finished (is_digit c) (ranges_code_point (four_byte_pointer a b d c)) incomplete
settled c low a (b ∷ d ∷ e ∷ front) incomplete =
    four_finished (is_digit e) (ranges_code_point (four_byte_pointer a b d e)) incomplete

single_is_basic : (b c : ℕ) → gb18030_single_char b ≡ Some c → c < 0x1_0000
single_is_basic b c is_char = grind (arith, nat_tests)

pub laws : AreMultiBytePrefixes gb18030_prefix
laws = record {
  prefixes = prefixes_by gb18030_prefix 3 (omega arith) refl lawful can_be_other;
  ascii = λ b l.
      first_alone (is_gb18030_lead b) (gb18030_single_char b) b (grind (arith, nat_tests))
      (cond-true _ _ _ (lt-ltb b 0x80 l));
  lead = 0x81;
  leads = record { is_byte = omega arith; incomplete = refl; malformed = refl };
  alone = λ b text e.
      first_is_basic (is_gb18030_lead b) (gb18030_single_char b) text (single_is_basic b) e;
  settled = settled;
}
