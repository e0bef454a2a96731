-- What holds of each form of the first sequence by ISO-2022-JP's rule holds of the first sequence.
-- It has a small text.
use Rattle.std.proofs.Common.{◌≡◌, ℕ, ◌<◌, Bool, true, false, eqb, Option, Some, None, List, [], ◌∷◌, length, take}
use Rattle.std.proofs.Common.{refl, ◌∙◌, arith, ◌⊎◌, inl, inr}
use Rattle.std.proofs.lemmas.Bool.{false≢true}
use Rattle.std.proofs.lemmas.Bool.Decides.{nat_tests}
use Rattle.std.specs.Option.{is_some}
use Rattle.enc_decoder_iso_2022_jp.specs.declared.character_set.CharacterSet.{CharacterSet}
use Rattle.enc_decoder_iso_2022_jp.specs.declared.character_set.CharacterSet.TheVariants.{Ascii, Roman, Katakana}
use Rattle.enc_decoder_iso_2022_jp.specs.declared.character_set.CharacterSet.TheVariants.{Jis0208}
use Rattle.enc_decoder.specs.Sequence.{is_malformed}
use Rattle.enc_decoder.specs.Segmentation.{Head, one_byte_head, malformed_head}
use Rattle.enc_decoder.specs.RuleLaws.{IsSmallText}
use Rattle.enc_decoder.specs.Need.{IsBmpText}
use Rattle.enc_decoder_iso_2022_jp.specs.Iso2022Jp.{set_of, set_of_escape_bytes, designated_set, escape_head}
use Rattle.enc_decoder_iso_2022_jp.specs.Iso2022Jp.{one_byte_char, is_lead_byte, two_byte_char, two_byte_head}
use Rattle.enc_decoder_iso_2022_jp.specs.Iso2022Jp.{iso_2022_jp_rule as jp_rule}
use Rattle.enc_decoder_iso_2022_jp.specs.Iso2022JpState.{cuts_off_lead}
use Rattle.enc_decoder.proofs.RuleLemmas.{none_small, one_small}
use Rattle.enc_decoder.proofs.EnoughLemmas.{basic_by, none_basic}
use Rattle.enc_decoder.proofs.FirstSequenceLemmas.{true_or_false}
use Rattle.enc_decoder_iso_2022_jp.proofs.Iso2022JpLemmas.{is_escape_byte, escape_first, no_escape_first, lead_first}
use Rattle.enc_decoder_iso_2022_jp.proofs.Iso2022JpLemmas.{alone_first, lead_alone, lead_and_trail}

-- a property of the first sequence, by its bytes and its head, for each of its forms
pub record HoldsOfEachForm (set : ℕ) (Holds : ℕ → List ℕ → Head → Type 0) : Type 0 where
  pub no_escape : (z : List ℕ) → designated_set (0x1B ∷ z) ≡ None
      → Holds 0x1B z (malformed_head set 0)
  pub escape : (b c : ℕ) (s : CharacterSet) (z : List ℕ) → set_of_escape_bytes b c ≡ Some s
      → Holds 0x1B (b ∷ c ∷ z) (escape_head set (Some s) (is_some (designated_set z)))
  pub lead : (b : ℕ) (z : List ℕ) → is_lead_byte (set_of set) b ≡ true → cuts_off_lead z ≡ true
      → Holds b z (malformed_head set 0)
  pub pair : (b c : ℕ) (z : List ℕ) → is_lead_byte (set_of set) b ≡ true → eqb c 0x1B ≡ false
      → Holds b (c ∷ z) (two_byte_head set (two_byte_char b c))
  pub alone : (b : ℕ) (z : List ℕ) → is_lead_byte (set_of set) b ≡ false → eqb b 0x1B ≡ false
      → Holds b z (one_byte_head set (one_byte_char (set_of set) b))

found_or_not : (found : Option CharacterSet)
    → (found ≡ None) ⊎ ((s : CharacterSet) × (found ≡ Some s))
found_or_not None = inl refl
found_or_not (Some s) = inr (s, refl)

module _ {set : ℕ} {Holds : ℕ → List ℕ → Head → Type 0} (each : HoldsOfEachForm set Holds) where
  none_holds : (z : List ℕ) → designated_set (0x1B ∷ z) ≡ None → Holds 0x1B z (jp_rule set 0x1B z)
  none_holds z none = rw (no_escape_first set z none) (each.no_escape z none)

  escape_holds : (z : List ℕ) → Holds 0x1B z (jp_rule set 0x1B z)
  escape_holds [] = none_holds [] refl
  escape_holds (b ∷ []) = none_holds (b ∷ []) refl
  escape_holds (b ∷ c ∷ z) = elim (found_or_not (set_of_escape_bytes b c)) [
    | inl none ↦ none_holds (b ∷ c ∷ z) none
    | inr found ↦ rw (escape_first set (b ∷ c ∷ z) (Some found.0) _ found.1 refl)
        (each.escape b c found.0 z found.1)
  ]

  cut_holds : (b : ℕ) (z : List ℕ) → is_lead_byte (set_of set) b ≡ true → cuts_off_lead z ≡ true
      → Holds b z (jp_rule set b z)
  cut_holds b z leads cut =
      rw (lead_first set b z leads ∙ lead_alone set b z cut) (each.lead b z leads cut)

  lead_holds : (b : ℕ) (z : List ℕ) → is_lead_byte (set_of set) b ≡ true
      → Holds b z (jp_rule set b z)
  lead_holds b [] leads = cut_holds b [] leads refl
  lead_holds b (c ∷ z) leads = elim (true_or_false (eqb c 0x1B)) [
    | inl cut ↦ cut_holds b (c ∷ z) leads cut
    | inr trails ↦ rw (lead_first set b (c ∷ z) leads ∙ lead_and_trail set b c z trails)
        (each.pair b c z leads trails)
  ]

  pub holds_of_first : (b : ℕ) (z : List ℕ) → Holds b z (jp_rule set b z)
  holds_of_first b z = elim (true_or_false (eqb b 0x1B)) [
    | inl escape ↦ rw (is_escape_byte b escape) (escape_holds z)
    | inr other ↦ elim (true_or_false (is_lead_byte (set_of set) b)) [
      | inl leads ↦ lead_holds b z leads
      | inr alone ↦ rw (alone_first set b z alone other) (each.alone b z alone other)
    ]
  ]

-- The first sequence has a small text, U+FFFD if it is malformed. The text of one byte is of the
-- Basic Multilingual Plane.

pub record HasForm (z : List ℕ) (h : Head) : Type 0 where
  pub small : IsSmallText h.text
  pub replacement : is_malformed h.kind ≡ true → h.text ≡ 0xFFFD ∷ []
  pub basic : length (take h.more z) ≡ 0 → IsBmpText h.text

malformed_form : (set more : ℕ) (z : List ℕ) → HasForm z (malformed_head set more)
malformed_form set more z =
    record {
      small = one_small 0xFFFD;
      replacement = λ _. refl;
      basic = λ _. basic_by 0xFFFD (omega arith);
    }

escape_form : (set : ℕ) (s : CharacterSet) (another : Bool) (z : List ℕ)
    → HasForm z (escape_head set (Some s) another)
escape_form set s true z =
    record {
      small = one_small 0xFFFD;
      replacement = λ _. refl;
      basic = λ _. basic_by 0xFFFD (omega arith);
    }
escape_form set s false z = record {
  small = none_small;
  replacement = λ skipped. absurd (false≢true skipped);
  basic = λ _. none_basic;
}

pair_form : (set c : ℕ) (z : List ℕ) (found : Option ℕ) → HasForm (c ∷ z) (two_byte_head set found)
pair_form set c z None = malformed_form set 1 (c ∷ z)
pair_form set c z (Some d) =
    record {
      small = one_small d;
      replacement = λ valid. absurd (false≢true valid);
      basic = λ none. absurd (omega arith);
    }

alone_is_basic : (s : CharacterSet) (b c : ℕ) → one_byte_char s b ≡ Some c → c < 0x1_0000
unfolding one_byte_char
alone_is_basic Ascii b c is_char = grind (arith, nat_tests)
alone_is_basic Roman b c is_char = grind (arith, nat_tests)
alone_is_basic Katakana b c is_char = grind (arith, nat_tests)
alone_is_basic Jis0208 b c is_char = absurd (cc)

alone_form : (set b : ℕ) (z : List ℕ) (found : Option ℕ) → one_byte_char (set_of set) b ≡ found
    → HasForm z (one_byte_head set found)
alone_form set b z None is_char = malformed_form set 0 z
alone_form set b z (Some c) is_char = record {
  small = one_small c;
  replacement = λ valid. absurd (false≢true valid);
  basic = λ _. basic_by c (alone_is_basic (set_of set) b c is_char);
}

pub has_form : (set b : ℕ) (z : List ℕ) → HasForm z (jp_rule set b z)
has_form set = holds_of_first {Holds = λ _ z h. HasForm z h} (record {
  no_escape = λ z _. malformed_form set 0 z;
  escape = λ b c s z _. escape_form set s (is_some (designated_set z)) (b ∷ c ∷ z);
  lead = λ b z _ _. malformed_form set 0 z;
  pair = λ b c z _ _. pair_form set c z (two_byte_char b c);
  alone = λ b z _ _. alone_form set b z (one_byte_char (set_of set) b) refl;
})
