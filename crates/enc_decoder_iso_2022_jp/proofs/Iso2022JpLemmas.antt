-- The first sequence by ISO-2022-JP's rule for each kind of first bytes.
use Rattle.std.proofs.Common.{◌≡◌, ℕ, ◌≤◌, Bool, true, false, eqb, Option, Some, None, List, [], ◌∷◌, ◌++◌, drop}
use Rattle.std.proofs.Common.{refl, ap, ◌∙◌, sym, arith, inl, inr}
use Rattle.std.proofs.lemmas.Bool.{le-ltb}
use Rattle.std.proofs.lemmas.Bool.Decides.{nat_tests}
use Rattle.std.specs.Option.{is_some}
use Rattle.enc_decoder.specs.declared.byte_codec.Kind.TheVariants.{Skipped, RepeatedEscape}
use Rattle.enc_decoder_iso_2022_jp.specs.declared.character_set.CharacterSet.{CharacterSet}
use Rattle.enc_decoder_iso_2022_jp.specs.declared.character_set.CharacterSet.TheVariants.{Ascii, Roman, Katakana}
use Rattle.enc_decoder_iso_2022_jp.specs.declared.character_set.CharacterSet.TheVariants.{Jis0208}
use Rattle.enc_decoder_iso_2022_jp.specs.declared.escape.Escape.{Escape}
use Rattle.enc_decoder_iso_2022_jp.specs.declared.escape.Escape.TheVariants.{ToAscii, ToRoman, ToKatakana}
use Rattle.enc_decoder_iso_2022_jp.specs.declared.escape.Escape.TheVariants.{ToJis0208Of1978, ToJis0208Of1983}
use Rattle.enc_decoder.specs.Segmentation.{sequences_of, one_byte_head, malformed_head}
use Rattle.enc_decoder_iso_2022_jp.specs.Iso2022Jp.{set_number, set_of, set_of_escape_bytes, designated_set}
use Rattle.enc_decoder_iso_2022_jp.specs.Iso2022Jp.{escape_head, ascii_char, katakana_char, one_byte_char, is_lead_byte}
use Rattle.enc_decoder_iso_2022_jp.specs.Iso2022Jp.{is_jis0208_byte, two_byte_char, two_byte_head, lead_byte_head}
use Rattle.enc_decoder_iso_2022_jp.specs.Iso2022Jp.{iso_2022_jp_rule as jp_rule}
use Rattle.enc_decoder_iso_2022_jp.specs.Iso2022JpState.{escape_bytes, escape_set, cuts_off_lead}
use Rattle.enc_decoder.proofs.FirstSequenceLemmas.{true_or_false}
use Rattle.enc_decoder.proofs.SegmentationLemmas.{sequences_of-head}

pub set_of_number : (s : CharacterSet) → set_of (set_number s) ≡ s
set_of_number Ascii = refl
set_of_number Roman = refl
set_of_number Katakana = refl
set_of_number Jis0208 = refl

pub differs : (a b : ℕ) → (a ≡ b → ⊥) → eqb a b ≡ false
differs a b n = grind (arith, nat_tests)

pub is_escape_byte : (a : ℕ) → eqb a 0x1B ≡ true → a ≡ 0x1B
is_escape_byte a e = grind (arith, nat_tests)

-- a byte for which something is found, where none is for 1B
pub found_for_other : {A : Type 0} (found : ℕ → Option A) (b : ℕ) (x : A) → found 0x1B ≡ None
    → found b ≡ Some x → eqb b 0x1B ≡ false
found_for_other found b x none is_found = elim (true_or_false (eqb b 0x1B)) [
  | inl escape ↦ (let none_is_found : None ≡ Some x =
      sym none ∙ ap found (sym (is_escape_byte b escape)) ∙ is_found in absurd (cc))
  | inr other ↦ other
]

pub lead_in_jis0208 : (s : CharacterSet) (b : ℕ) → is_lead_byte s b ≡ true
    → is_jis0208_byte b ≡ true
unfolding is_lead_byte
lead_in_jis0208 Ascii b e = cc
lead_in_jis0208 Roman b e = cc
lead_in_jis0208 Katakana b e = cc
lead_in_jis0208 Jis0208 b e = e

in_jis0208 : (b : ℕ) → is_jis0208_byte b ≡ true → eqb b 0x1B ≡ false
in_jis0208 b e = grind (arith, nat_tests)

-- a lead byte begins no escape sequence
pub lead_is_no_escape : (s : CharacterSet) (b : ℕ) → is_lead_byte s b ≡ true → eqb b 0x1B ≡ false
lead_is_no_escape s b e = in_jis0208 b (lead_in_jis0208 s b e)

-- a byte with the high bit set is no character in any set, leads none, and begins no escape
-- sequence

ascii_is_low : (b : ℕ) → 0x80 ≤ b → ascii_char b ≡ None
ascii_is_low b is_high = rw (le-ltb b 0x80 is_high) refl

katakana_is_low : (b : ℕ) → 0x80 ≤ b → katakana_char b ≡ None
katakana_is_low b is_high = grind (arith, nat_tests)

pub high_is_none : (s : CharacterSet) (b : ℕ) → 0x80 ≤ b → one_byte_char s b ≡ None
unfolding one_byte_char
high_is_none Ascii b is_high = ascii_is_low b is_high
high_is_none Roman b is_high =
    rw (differs b 0x5C (λ e. omega arith), differs b 0x7E (λ e. omega arith))
    (ascii_is_low b is_high)
high_is_none Katakana b is_high = katakana_is_low b is_high
high_is_none Jis0208 b is_high = refl

high_in_jis0208 : (b : ℕ) → 0x80 ≤ b → is_jis0208_byte b ≡ false
high_in_jis0208 b is_high = grind (arith, nat_tests)

pub high_leads_none : (s : CharacterSet) (b : ℕ) → 0x80 ≤ b → is_lead_byte s b ≡ false
unfolding is_lead_byte
high_leads_none Ascii b is_high = refl
high_leads_none Roman b is_high = refl
high_leads_none Katakana b is_high = refl
high_leads_none Jis0208 b is_high = high_in_jis0208 b is_high

pub high_is_no_escape : (b : ℕ) → 0x80 ≤ b → eqb b 0x1B ≡ false
high_is_no_escape b is_high = differs b 0x1B (λ e. omega arith)

-- the first sequence

pub escape_first : (set : ℕ) (z : List ℕ) (found : Option CharacterSet) (another : Bool)
    → designated_set (0x1B ∷ z) ≡ found
    → is_some (designated_set (drop 2 z)) ≡ another
    → jp_rule set 0x1B z ≡ escape_head set found another
unfolding jp_rule
escape_first set z found another designates followed =
    ap (λ o. escape_head set o (is_some (designated_set (drop 2 z)))) designates
    ∙ ap (escape_head set found) followed

pub no_escape_first : (set : ℕ) (z : List ℕ) → designated_set (0x1B ∷ z) ≡ None
    → jp_rule set 0x1B z ≡ malformed_head set 0
no_escape_first set z none_begins = escape_first set z None _ none_begins refl

pub lead_first : (set b : ℕ) (z : List ℕ) → is_lead_byte (set_of set) b ≡ true
    → jp_rule set b z ≡ lead_byte_head set b z
unfolding jp_rule
lead_first set b z leads = rw (lead_is_no_escape (set_of set) b leads, leads) refl

pub alone_first : (set b : ℕ) (z : List ℕ) → is_lead_byte (set_of set) b ≡ false
    → eqb b 0x1B ≡ false
    → jp_rule set b z ≡ one_byte_head set (one_byte_char (set_of set) b)
unfolding jp_rule
alone_first set b z no_lead no_escape = rw (no_escape, no_lead) refl

-- a lead byte that is malformed alone, and one with the byte after it

pub lead_alone : (set b : ℕ) (z : List ℕ) → cuts_off_lead z ≡ true
    → lead_byte_head set b z ≡ malformed_head set 0
lead_alone set b [] e = refl
lead_alone set b (c ∷ z) e = rw e refl

pub lead_and_trail : (set b c : ℕ) (z : List ℕ) → eqb c 0x1B ≡ false
    → lead_byte_head set b (c ∷ z) ≡ two_byte_head set (two_byte_char b c)
lead_and_trail set b c z e = rw e refl

-- an escape sequence is 1B and two bytes, which name its character set

pub record HasEscapeBytes (e : Escape) : Type 0 where
  pub second : ℕ
  pub third : ℕ
  pub bytes : escape_bytes e ≡ 0x1B ∷ second ∷ third ∷ []
  pub names_set : set_of_escape_bytes second third ≡ Some (escape_set e)

pub has_escape_bytes : (e : Escape) → HasEscapeBytes e
has_escape_bytes ToAscii = record { second = 0x28; third = 0x42; bytes = refl; names_set = refl }
has_escape_bytes ToRoman = record { second = 0x28; third = 0x4A; bytes = refl; names_set = refl }
has_escape_bytes ToKatakana = record { second = 0x28; third = 0x49; bytes = refl; names_set = refl }
has_escape_bytes ToJis0208Of1978 =
    record { second = 0x24; third = 0x40; bytes = refl; names_set = refl }
has_escape_bytes ToJis0208Of1983 =
    record { second = 0x24; third = 0x42; bytes = refl; names_set = refl }

-- the set that an escape sequence designates
pub designated_by : (e : Escape) (z : List ℕ)
    → designated_set (escape_bytes e ++ z) ≡ Some (escape_set e)
designated_by e z = let parts = has_escape_bytes e in rw parts.bytes parts.names_set

-- an escape sequence, by whether another follows it

pub skipped_escape : (set : ℕ) (e : Escape) (z : List ℕ) → designated_set z ≡ None
    → sequences_of jp_rule set (escape_bytes e ++ z)
    ≡ record { bytes = escape_bytes e; text = []; kind = Skipped; set = set_number (escape_set e) }
    ∷ sequences_of jp_rule (set_number (escape_set e)) z
skipped_escape set e z none_follows =
    let parts = has_escape_bytes e in
    rw parts.bytes (sequences_of-head jp_rule set 0x1B (parts.second ∷ parts.third ∷ z) _
    (escape_first set _ (Some (escape_set e)) false parts.names_set (ap is_some none_follows)))

pub repeated_escape : (set : ℕ) (e : Escape) (z : List ℕ) (s : CharacterSet)
    → designated_set z ≡ Some s
    → sequences_of jp_rule set (escape_bytes e ++ z)
    ≡ record {
      bytes = escape_bytes e;
      text = 0xFFFD ∷ [];
      kind = RepeatedEscape;
      set = set_number (escape_set e);
    }
    ∷ sequences_of jp_rule (set_number (escape_set e)) z
repeated_escape set e z s another_follows =
    let parts = has_escape_bytes e in
    rw parts.bytes (sequences_of-head jp_rule set 0x1B (parts.second ∷ parts.third ∷ z) _
    (escape_first set _ (Some (escape_set e)) true parts.names_set (ap is_some another_follows)))
