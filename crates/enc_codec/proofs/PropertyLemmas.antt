-- Which rules are ASCII-compatible, which are single-byte, and which have sequences without a text.
use Rattle.std.proofs.Common.{◌≡◌, ℕ, ◌<◌, Bool, true, false, Option, Some, None, List, [], ◌∷◌, length, refl, ap, ◌∙◌}
use Rattle.std.proofs.Common.{sym, subst, arith}
use Rattle.std.specs.List.{AllByRecursion}
use Rattle.enc_decoder.specs.Sequence.{Sequence}
use Rattle.enc_decoder.specs.Segmentation.{Head, Rule, one_byte_head, head_sequence, sequences_after, sequences_of}
use Rattle.enc_decoder.specs.Remainder.{AreBytes}
use Rattle.enc_decoder.specs.RuleLaws.{HasTexts}
use Rattle.enc_decoder.proofs.SegmentationLemmas.{sequences_of-cons}
use Rattle.enc_decoder_utf.specs.Utf8.{utf_8_rule, utf_8_prefix}
use Rattle.enc_decoder_utf.specs.Utf16.{code_unit, is_lead_surrogate, is_trail_surrogate, utf_16_rule}
use Rattle.enc_decoder_utf.proofs.Utf8Prefixes.{utf_8_ascii}
use Rattle.enc_decoder_utf.proofs.Utf8Rule.{utf_8_by_prefixes, two_bytes}
use Rattle.enc_decoder_single_byte.specs.OneByte.{one_byte_rule}
use Rattle.enc_decoder_single_byte.specs.Replacement.{replacement_rule}
use Rattle.enc_decoder_single_byte.proofs.OneByteLemmas.{one_byte_heads}
use Rattle.enc_decoder.specs.declared.prefix.Prefix.{Prefix}
use Rattle.enc_decoder.specs.declared.prefix.Prefix.TheVariants.{Malformed, Incomplete}
use Rattle.enc_decoder.specs.Prefixes.{prefix_rule, prefix_head, HasAscii}
use Rattle.enc_decoder.proofs.PrefixLemmas.{complete_one}
use Rattle.enc_decoder_multi_byte.specs.MultiByte.{AreMultiBytePrefixes}
use Rattle.enc_decoder_iso_2022_jp.specs.Iso2022Jp.{iso_2022_jp_rule}
use Rattle.enc_codec.specs.Properties.{IsAsciiCompatible, IsByteWithText, IsSingleByte}

first_text : {s t : Sequence} {ss ts : List Sequence} → s ∷ ss ≡ t ∷ ts → s.text ≡ t.text
first_text e = cc

-- a byte below 0x80 that is U+FFFD, and a sequence of more than one byte

replaced : (rule : Rule) (b : ℕ) → b < 0x80 → (rule 0 b []).text ≡ 0xFFFD ∷ []
    → ¬ (IsAsciiCompatible rule)
replaced rule b is_ascii is_text h =
    let same = sym is_text ∙ first_text (sym (sequences_of-cons rule 0 b []) ∙ h b is_ascii []) in
    let byte_is_fffd : 0xFFFD ≡ b = cc in
    omega arith

more_bytes : (rule : Rule) (b : ℕ) (z : List ℕ) → AreBytes (b ∷ z)
    → (length (head_sequence (rule 0 b z) b z).bytes ≡ 1 → ⊥) → ¬ (IsSingleByte rule)
more_bytes rule b z a n h =
    n (subst (AllByRecursion IsByteWithText) (sequences_of-cons rule 0 b z) (h (b ∷ z) a)).0.one

-- encodings by prefixes that have ASCII
pub prefixes_are_ascii_compatible : (prefix : List ℕ → Prefix) → HasAscii prefix
    → IsAsciiCompatible (prefix_rule prefix)
prefixes_are_ascii_compatible prefix has_ascii b low = complete_one prefix b b (has_ascii b low)

-- UTF-8

pub utf_8_is_ascii_compatible : IsAsciiCompatible utf_8_rule
utf_8_is_ascii_compatible = subst IsAsciiCompatible utf_8_by_prefixes
    (prefixes_are_ascii_compatible utf_8_prefix utf_8_ascii)

pub utf_8_is_not_single_byte : ¬ (IsSingleByte utf_8_rule)
utf_8_is_not_single_byte =
    more_bytes utf_8_rule 0xC2 (0x80 ∷ []) (omega arith, (omega arith, tt))
    (λ one. let two = rw two_bytes at one in cc)

-- UTF-16

pub utf_16_is_not_ascii_compatible : (big : Bool) → ¬ (IsAsciiCompatible (utf_16_rule big))
unfolding prefix_rule
utf_16_is_not_ascii_compatible big = replaced (utf_16_rule big) 0x61 (omega arith) refl

pub utf_16_is_not_single_byte : (big : Bool) → ¬ (IsSingleByte (utf_16_rule big))
unfolding prefix_rule code_unit is_lead_surrogate is_trail_surrogate
utf_16_is_not_single_byte true =
    more_bytes (utf_16_rule true) 0 (0x61 ∷ []) (omega arith, (omega arith, tt)) (λ e. cc)
utf_16_is_not_single_byte false =
    more_bytes (utf_16_rule false) 0 (0x61 ∷ []) (omega arith, (omega arith, tt)) (λ e. cc)

-- encodings of one byte
module _ (character : ℕ → Option ℕ) where
  abbrev rule : Rule
  rule = λ set b z. one_byte_head set (character b)

  first : (set b : ℕ) (z : List ℕ) (c : Option ℕ)
      → ((set : ℕ) → AllByRecursion IsByteWithText (sequences_of rule set z))
      → AllByRecursion IsByteWithText (head_sequence (one_byte_head set c) b z
      ∷ sequences_after rule (one_byte_head set c).set (one_byte_head set c).more z)
  first set b z None rest_holds = (record { one = refl; text = λ e. cc }, rest_holds set)
  first set b z (Some c) rest_holds = (record { one = refl; text = λ e. cc }, rest_holds set)

  each : (set : ℕ) (bytes : List ℕ) → AllByRecursion IsByteWithText (sequences_of rule set bytes)
  unfolding sequences_after
  each set [] = tt
  each set (b ∷ z) = first set b z (character b) (λ s. each s z)

  pub one_byte_is_single_byte : IsSingleByte (one_byte_rule character)
  one_byte_is_single_byte = subst IsSingleByte (one_byte_heads character) (λ bytes _. each 0 bytes)

-- legacy multi-byte encodings

-- by a lead, and a byte that is malformed with it

broken_pair : (prefix : List ℕ → Prefix) (lead b : ℕ) → lead < 256 → b < 256
    → prefix (lead ∷ []) ≡ Incomplete → prefix (lead ∷ b ∷ []) ≡ Malformed 2
    → ¬ (IsSingleByte (prefix_rule prefix))
unfolding prefix_rule
broken_pair prefix lead b l m e f =
    let head_is : prefix_head prefix 0 (lead ∷ []) (prefix (lead ∷ [])) (b ∷ [])
    ≡ prefix_head prefix 0 (lead ∷ b ∷ []) (Malformed 2) [] =
    ap (λ r. prefix_head prefix 0 (lead ∷ []) r (b ∷ [])) e
    ∙ ap (λ r. prefix_head prefix 0 (lead ∷ b ∷ []) r []) f in
    more_bytes (prefix_rule prefix) lead (b ∷ []) (l, (m, tt))
    (λ o. let one_byte = subst (λ (t : Head). length (head_sequence t lead (b ∷ [])).bytes ≡ 1)
    head_is o in
    cc)

pub multi_byte_is_not_single_byte : (prefix : List ℕ → Prefix) → AreMultiBytePrefixes prefix
    → ¬ (IsSingleByte (prefix_rule prefix))
multi_byte_is_not_single_byte prefix laws =
    broken_pair prefix laws.lead 0xFF laws.leads.is_byte (omega arith) laws.leads.incomplete
    laws.leads.malformed

-- ISO-2022-JP, in which an escape sequence is skipped, and 1B by itself is malformed

pub iso_2022_jp_lacks_texts : ¬ (HasTexts iso_2022_jp_rule)
unfolding iso_2022_jp_rule
iso_2022_jp_lacks_texts h = h 0 0x1B (0x28 ∷ 0x42 ∷ []) refl

pub iso_2022_jp_is_not_ascii_compatible : ¬ (IsAsciiCompatible iso_2022_jp_rule)
unfolding iso_2022_jp_rule
iso_2022_jp_is_not_ascii_compatible = replaced iso_2022_jp_rule 0x1B (omega arith) refl

pub iso_2022_jp_is_not_single_byte : ¬ (IsSingleByte iso_2022_jp_rule)
unfolding iso_2022_jp_rule
iso_2022_jp_is_not_single_byte =
    more_bytes iso_2022_jp_rule 0x1B (0x28 ∷ 0x42 ∷ [])
    (omega arith, (omega arith, (omega arith, tt))) (λ e. cc)

-- replacement, whose second byte has no text

pub replacement_lacks_texts : ¬ (HasTexts replacement_rule)
unfolding replacement_rule
replacement_lacks_texts h = h 1 0x61 [] refl

pub replacement_is_not_ascii_compatible : ¬ (IsAsciiCompatible replacement_rule)
unfolding replacement_rule
replacement_is_not_ascii_compatible = replaced replacement_rule 0x61 (omega arith) refl

pub replacement_is_not_single_byte : ¬ (IsSingleByte replacement_rule)
unfolding replacement_rule sequences_after
replacement_is_not_single_byte h =
    (h (0x61 ∷ 0x61 ∷ []) (omega arith, (omega arith, tt))).1.0.text refl
