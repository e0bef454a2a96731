-- Text that is encoded as itself: each of its characters is written as its UTF-8, in ASCII.
use Rattle.std.proofs.Common.{◌≡◌, ℕ, suc, ◌<◌, true, false, List, [], ◌∷◌, ◌++◌, refl, ap, ◌∙◌, sym, subst}
use Rattle.std.proofs.Common.{arith, inl, inr, append_assoc, append-nil, chars, nat_lt, not, ◌||◌, ◌==◌, is_some, Some}
use Rattle.std.proofs.Common.{if◌then◌else◌}
use Rattle.std.specs.Prelude.{All, ◌≢◌}
use Rattle.std.specs.Char.{encode_utf8}
use Rattle.std.specs.Str.{IsUtf8, encode_utf8_all}
use Rattle.std.proofs.lemmas.Bool.Decides.{nat_tests}
use Rattle.std.proofs.lemmas.Str.{encode_ascii, encodes-chars, chars_from_encodes}
use Rattle.enc_utf8.specs.Validity.{AreAscii}
use Rattle.enc_encoder.specs.declared.character_set.CharacterSet.TheVariants.{Ascii}
use Rattle.enc_encoder.specs.EncoderRule.{EncoderRule, IsLawfulEncoderRule, set_for}
use Rattle.enc_encoder.specs.Text.{escape_sequence, escape_at_end, escape_before, list_or_empty, bytes_after_text}
use Rattle.enc_encoder.specs.Text.{with_reference, with_references}
use Rattle.enc_encoder.specs.Unmappable.{any_unmappable}
use Rattle.enc_encode.specs.Iso2022Jp.{has_class, class_of, iso_2022_jp_bytes}
use Rattle.enc_decoder_iso_2022_jp.proofs.Iso2022JpLemmas.{differs}
use Rattle.enc_stream.specs.declared.encoding.Encoding.{Encoding}
use Rattle.enc_stream.specs.declared.constants.TheConstants.{UTF_8, ISO_2022_JP}
use Rattle.enc_stream.specs.Encodings.{output_rule}
use Rattle.enc_stream.specs.Encoder.{whole_bytes}
use Rattle.enc_stream.specs.OwnText.{AreTheirOwnText}
use Rattle.enc_stream.specs.Properties.{output_encoding_of}
use Rattle.enc_stream.proofs.EncoderLemmas.{ascii_bytes, ascii_set}
use Rattle.enc_stream.proofs.EncoderProgressLemmas.{output_rule_is}
use Rattle.enc_stream.proofs.ReferenceLemmas.{lawful_of}
use Rattle.enc_stream.proofs.OwnTextLemmas.{ascii_encoded, plain_ascii}

-- A character is written as its UTF-8, in ASCII.
pub record IsOwnChar (rule : EncoderRule) (c : ℕ) : Type 0 where
  pub bytes : rule.bytes c ≡ Some (encode_utf8 c)
  pub has : rule.has Ascii c ≡ true

abbrev pub EachIsOwnChar : EncoderRule → List ℕ → Type 0
EachIsOwnChar rule [] = Unit {0}
EachIsOwnChar rule (c ∷ cs) = IsOwnChar rule c × EachIsOwnChar rule cs

module _ (rule : EncoderRule) (lawful : IsLawfulEncoderRule rule) where
  pub all_stay : (cs t : List ℕ) → EachIsOwnChar rule cs
      → with_references rule (cs ++ t) ≡ cs ++ with_references rule t
  all_stay [] t each = refl
  all_stay (c ∷ cs) t each =
      ap (λ b. with_reference rule c b ++ with_references rule (cs ++ t)) each.0.bytes
      ∙ ap (λ x. c ∷ x) (all_stay cs t each.1)

  pub all_mappable : (cs : List ℕ) → EachIsOwnChar rule cs → any_unmappable rule cs ≡ false
  all_mappable [] each = refl
  all_mappable (c ∷ cs) each =
      ap (λ b. not (is_some b) || any_unmappable rule cs) each.0.bytes ∙ all_mappable cs each.1

  stays_in_ascii : (u : List ℕ) (c : ℕ) → rule.set_after Ascii u ≡ Ascii → IsOwnChar rule c
      → rule.set_after Ascii (u ++ c ∷ []) ≡ Ascii
  stays_in_ascii u c in_ascii is_own =
      lawful.set_after_more Ascii u c ∙ ap (λ s. set_for rule s c) in_ascii
      ∙ ap (λ has. if has then Ascii else rule.designated c) is_own.has

  -- What comes after a text depends on its character set alone.
  same_after : (u v t : List ℕ) → rule.set_after Ascii u ≡ rule.set_after Ascii v
      → bytes_after_text rule Ascii u t ≡ bytes_after_text rule Ascii v t
  same_after u v [] same_set = ap escape_at_end same_set
  same_after u v (c ∷ t) same_set =
      ap (λ s. escape_before rule s c
      ++ (list_or_empty (rule.bytes c) ++ bytes_after_text rule Ascii (u ++ c ∷ []) t)) same_set
      ∙ ap (λ x. escape_before rule (rule.set_after Ascii v) c
      ++ (list_or_empty (rule.bytes c) ++ x))
      (same_after (u ++ c ∷ []) (v ++ c ∷ []) t
      (lawful.set_after_more Ascii u c ∙ ap (λ s. set_for rule s c) same_set
      ∙ sym (lawful.set_after_more Ascii v c)))

  pub all_written : (u cs t : List ℕ) → rule.set_after Ascii u ≡ Ascii → EachIsOwnChar rule cs
      → bytes_after_text rule Ascii u (cs ++ t)
      ≡ encode_utf8_all cs ++ bytes_after_text rule Ascii [] t
  all_written u [] t in_ascii each =
      same_after u [] t (in_ascii ∙ sym (lawful.set_after_none Ascii))
  all_written u (c ∷ cs) t in_ascii each =
      let others = bytes_after_text rule Ascii (u ++ c ∷ []) (cs ++ t) in
      let rest = list_or_empty (rule.bytes c) ++ others in
      ap (λ s. escape_before rule s c ++ rest) in_ascii
      ∙ ap (λ has. (if has then [] else escape_sequence (rule.designated c)) ++ rest) each.0.has
      ∙ ap (λ b. list_or_empty b ++ others) each.0.bytes
      ∙ ap (λ x. encode_utf8 c ++ x)
      (all_written (u ++ c ∷ []) cs t (stays_in_ascii u c in_ascii each.0) each.1)
      ∙ sym (append_assoc (encode_utf8 c) (encode_utf8_all cs) (bytes_after_text rule Ascii [] t))

-- UTF-8 writes each character so
pub each_in_utf_8 : (cs : List ℕ) → EachIsOwnChar (output_rule [] UTF_8) cs
each_in_utf_8 [] = tt
each_in_utf_8 (c ∷ cs) = (record { bytes = refl; has = refl }, each_in_utf_8 cs)

-- bytes below 0x80 that are written as themselves
pub each_of_bytes : (rule : EncoderRule) (bs : List ℕ)
    → All (λ b. (b < 0x80) × ((rule.bytes b ≡ Some (b ∷ [])) × (rule.has Ascii b ≡ true))) bs
    → EachIsOwnChar rule bs
each_of_bytes rule [] are_own = tt
each_of_bytes rule (b ∷ bs) are_own =
    let first = are_own 0 0 (omega arith) in (
      record {
        bytes = first.1.0 ∙ ap (λ x. Some x) (sym (encode_ascii b first.0));
        has = first.1.1;
      },
      each_of_bytes rule bs (λ k d h. are_own (suc k) d (omega arith)),
    )

-- ISO-2022-JP

plain_bytes : (b : ℕ) → b < 0x80 → b ≢ 0x0E → b ≢ 0x0F → b ≢ 0x1B
    → iso_2022_jp_bytes b ≡ Some (b ∷ [])
plain_bytes b is_low not_out not_in not_escape =
    let low : nat_lt b 0x80 ≡ true = grind (arith, nat_tests) in
    rw (low, differs b 0x0E not_out, differs b 0x0F not_in, differs b 0x1B not_escape) refl

-- (0x5C is in the same sets as 0x7E, and 0x41 as the others)
plain_set : (b : ℕ) → b < 0x80 → has_class Ascii (class_of b) ≡ true
plain_set b is_low =
    let low : nat_lt b 0x80 ≡ true = grind (arith, nat_tests) in
    rw low (elim (b == 0x5C || b == 0x7E) as
    (λ twin. has_class Ascii (if twin then class_of 0x5C else class_of 0x41) ≡ true)
    [ true ↦ refl | false ↦ refl ])

-- the characters of ASCII are its bytes
ascii_chars : (bs : List ℕ) → IsUtf8 bs → AreAscii bs → bs ≡ chars bs
ascii_chars bs utf8 are_ascii = chars_from_encodes bs bs utf8 (ascii_encoded bs are_ascii)

each_own : (e : Encoding) (text : List ℕ) → IsUtf8 text → AreTheirOwnText e text
    → EachIsOwnChar (output_rule [] e) (chars text)
each_own e text utf8 (inl utf_8) =
    subst (λ (o : Encoding). EachIsOwnChar (output_rule [] o) (chars text)) (sym utf_8.0)
    (each_in_utf_8 (chars text))
each_own e text utf8 (inr (inl ascii)) =
    subst (EachIsOwnChar (output_rule [] e)) (ascii_chars text utf8 ascii.1)
    (each_of_bytes (output_rule [] e) text (λ k d h. (
      ascii.1 k d h,
      (ascii_bytes e ascii.0 [] _ (ascii.1 k d h), ascii_set e ascii.0 [] _),
    )))
each_own e text utf8 (inr (inr japanese)) =
    subst (λ (o : Encoding). EachIsOwnChar (output_rule [] o) (chars text)) (sym japanese.0)
    (subst (EachIsOwnChar (output_rule [] ISO_2022_JP))
    (ascii_chars text utf8 (plain_ascii text japanese.1))
    (each_of_bytes (output_rule [] ISO_2022_JP) text (λ k d h. let plain = japanese.1 k d h in (
      plain.0,
      (plain_bytes _ plain.0 plain.1 plain.2 plain.3, plain_set _ plain.0),
    ))))

-- the text of an encoding whose output encoding has it as itself
module _ (e : Encoding) (text : List ℕ) (utf8 : IsUtf8 text)
    (is_own : AreTheirOwnText (output_encoding_of e) text) where
  each : EachIsOwnChar (output_rule [] e) (chars text)
  each = subst (λ rule. EachIsOwnChar rule (chars text)) (output_rule_is [] e)
      (each_own (output_encoding_of e) text utf8 is_own)

  pub own_bytes : text ≡ whole_bytes [] e (chars text)
  own_bytes =
      let rule = output_rule [] e in
      let lawful = lawful_of [] e in
      let none_after = lawful.set_after_none Ascii in
      sym (append-nil text)
      ∙ ap (λ x. x ++ []) (sym (encodes-chars text utf8))
      ∙ ap (λ s. encode_utf8_all (chars text) ++ escape_at_end s) (sym none_after)
      ∙ sym (all_written rule lawful [] (chars text) [] none_after each)
      ∙ ap (bytes_after_text rule Ascii []) (sym (all_stay rule lawful (chars text) [] each))
      ∙ ap (whole_bytes [] e) (append-nil (chars text))

  pub own_mappable : false ≡ any_unmappable (output_rule [] e) (chars text)
  own_mappable = sym (all_mappable (output_rule [] e) (lawful_of [] e) (chars text) each)
