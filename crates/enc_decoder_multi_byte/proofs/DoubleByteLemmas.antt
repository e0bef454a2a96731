-- What single bytes and trails make of the bytes in front, for all legacy multi-byte encodings.
use Rattle.std.proofs.Common.{◌≡◌, ◌≢◌, ℕ, ◌+◌, ◌<◌, ◌≤◌, Bool, true, false, cond, nat_lt, Option, Some, None, List, []}
use Rattle.std.proofs.Common.{◌∷◌, ◌++◌, length, refl, ap, ◌∙◌, arith, subst}
use Rattle.enc_decoder.specs.declared.byte_codec.Text.{Text}
use Rattle.enc_decoder.specs.declared.byte_codec.Text.TheVariants.{One}
use Rattle.enc_decoder.specs.declared.prefix.Prefix.{Prefix}
use Rattle.enc_decoder.specs.declared.prefix.Prefix.TheVariants.{Complete, Malformed, Incomplete}
use Rattle.enc_decoder_multi_byte.specs.DoubleByte.{text_of_char, first_prefix, trail_prefix}
use Rattle.enc_decoder_multi_byte.specs.DoubleByte.{double_byte_prefix, ArePairs}
use Rattle.enc_decoder_multi_byte.specs.MultiByte.{AreMultiBytePrefixes}
use Rattle.enc_decoder.specs.Prefixes.{single_prefix, IsPrefixText, CanBeOther, AreSettledBelowDigits}
use Rattle.enc_decoder.proofs.PrefixLaws.{one_is_text, IsLawfulPrefix, single_lawful, prefixes_by, malformed_with_ff}
use Rattle.enc_decoder.specs.CodecLaw.{text_chars}
use Rattle.enc_decoder.specs.Need.{IsBmpText}
use Rattle.enc_decoder.proofs.EnoughLemmas.{basic_by}
use Rattle.std.proofs.lemmas.Bool.Decides.{nat_tests}

pub char_is_text : (c : Option ℕ) (text : Text) → text_of_char c ≡ Some text → IsPrefixText text
char_is_text None text is_char = cc
char_is_text (Some c) text is_char =
    subst IsPrefixText (let text_is : One c ≡ text = cc in text_is) (one_is_text c)

-- the first byte
pub first_lawful : (most : ℕ) (leads : Bool) (c : Option ℕ) → 1 ≤ most
    → IsLawfulPrefix most 1 (first_prefix leads c)
first_lawful most true c some = some
first_lawful most false c some = single_lawful most 1 c (omega arith)

-- a byte that is no lead is the character that it has, and a lead needs another byte

pub first_alone : (leads : Bool) (single : Option ℕ) (b : ℕ) → leads ≡ false → single ≡ Some b
    → first_prefix leads single ≡ Complete (One b)
first_alone leads single b no_lead is_char =
    ap (λ t. first_prefix t single) no_lead ∙ ap single_prefix is_char

pub first_leads : (leads : Bool) (single : Option ℕ) → leads ≡ true
    → first_prefix leads single ≡ Incomplete
first_leads leads single is_lead = ap (λ t. first_prefix t single) is_lead

-- a character of a single byte is of the Basic Multilingual Plane

pub first_is_basic : (leads : Bool) (single : Option ℕ) (text : Text)
    → ((c : ℕ) → single ≡ Some c → c < 0x1_0000) → first_prefix leads single ≡ Complete text
    → IsBmpText (text_chars text)
first_is_basic true single text basic complete = absurd (cc)
first_is_basic false None text basic complete = absurd (cc)
first_is_basic false (Some c) text basic complete =
    subst (λ t. IsBmpText (text_chars t)) (let text_is : One c ≡ text = cc in text_is)
    (basic_by c (basic c refl))

pub ascii_is_basic : (b c : ℕ) → cond (nat_lt b 0x80) (Some b) None ≡ Some c → c < 0x1_0000
ascii_is_basic b c is_char = grind (arith, nat_tests)

-- a byte after n others

pub trail_lawful : (most len n b : ℕ) (t : Option Text)
    → ((text : Text) → t ≡ Some text → IsPrefixText text) → 0 < n → n < len
    → IsLawfulPrefix most len (trail_prefix n b t)
trail_lawful most len n b None is_text some within =
    (grind (arith, nat_tests), grind (arith, nat_tests))
trail_lawful most len n b (Some text) is_text some within = is_text text refl

pub trail_finished : (n b : ℕ) (t : Option Text) → trail_prefix n b t ≢ Incomplete
trail_finished n b None incomplete = cc
trail_finished n b (Some t) incomplete = cc

-- FF is no trail, and is malformed with the n bytes before it
pub trail_can_be_malformed : (n : ℕ) (t : Option Text) → t ≡ None
    → trail_prefix n 0xFF t ≡ Malformed (n + 1)
trail_can_be_malformed n t no_text = ap (trail_prefix n 0xFF) no_text

-- encodings of one byte and two
pub double_byte_laws : (is_lead : ℕ → Bool) (single : ℕ → Option ℕ) (pair : ℕ → ℕ → Option Text)
    → ArePairs is_lead single pair
    → AreMultiBytePrefixes (double_byte_prefix is_lead single pair)
double_byte_laws is_lead single pair laws =
    record {
      prefixes = prefixes_by (double_byte_prefix is_lead single pair) 1 (omega arith) refl lawful
          can_be_other;
      ascii = λ b l. first_alone (is_lead b) (single b) b (laws.ascii b l).0 (laws.ascii b l).1;
      lead = laws.lead;
      leads = record {
        is_byte = laws.is_byte;
        incomplete = first_leads (is_lead laws.lead) (single laws.lead) laws.leads;
        malformed = trail_can_be_malformed 1 (pair laws.lead 0xFF) (laws.no_trail laws.lead);
      };
      alone = λ b text e.
          first_is_basic (is_lead b) (single b) text (laws.basic b) e;
      settled = settled;
    }
  where
    lawful : (front : List ℕ)
        → IsLawfulPrefix 1 (length front) (double_byte_prefix is_lead single pair front)
    lawful [] = omega arith
    lawful (a ∷ []) = first_lawful 1 (is_lead a) (single a) (omega arith)
    lawful (a ∷ b ∷ z) =
        trail_lawful 1 _ 1 b (pair a b) (laws.texts a b) (omega arith) (omega arith)

    can_be_other : (front : List ℕ) → 0 < length front
        → double_byte_prefix is_lead single pair front ≡ Incomplete
        → CanBeOther (double_byte_prefix is_lead single pair) front
    can_be_other [] some incomplete = absurd (omega arith)
    can_be_other (a ∷ []) some incomplete =
        malformed_with_ff _ (a ∷ []) 2 (omega arith) (omega arith)
        (trail_can_be_malformed 1 (pair a 0xFF) (laws.no_trail a)) (λ same. omega arith)
    can_be_other (a ∷ b ∷ z) some incomplete =
        absurd (trail_finished 1 b (pair a b) incomplete)

    settled : AreSettledBelowDigits (double_byte_prefix is_lead single pair)
    settled c low a [] incomplete = trail_finished 1 c (pair a c) incomplete
    settled c low a (b ∷ front) incomplete = trail_finished 1 b (pair a b) incomplete
