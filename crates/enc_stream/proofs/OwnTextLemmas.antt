-- Input that is its own text: each of its characters is a sequence of the character's UTF-8.
use Rattle.std.proofs.Common.{◌≡◌, ℕ, suc, ◌<◌, true, false, true≢false, List, [], ◌∷◌, ◌++◌, length, take, refl, ap}
use Rattle.std.proofs.Common.{◌∙◌, sym, subst, arith, append_assoc, append-nil, inl, inr, eqb-true, nat_lt}
use Rattle.std.proofs.Common.{Some, ◌==◌, ◌↔◌}
use Rattle.std.specs.Prelude.{All, ◌≢◌}
use Rattle.std.specs.Char.{encode_utf8}
use Rattle.std.specs.Str.{IsUtf8, all_scalars, encode_utf8_all}
use Rattle.std.proofs.lemmas.Bool.{and_parts, cases_lt, false≢true}
use Rattle.std.proofs.lemmas.Bool.Decides.{nat_tests}
use Rattle.std.proofs.lemmas.Str.{encode_ascii}
use Rattle.enc_utf8.specs.Text.{units_of_text}
use Rattle.enc_utf8.specs.Validity.{IsLongestPrefix, AreAscii, AreIso2022JpAscii}
use Rattle.enc_utf8.proofs.ScalarLemmas.{ascii_scalars}
use Rattle.enc_utf8.proofs.UnitsLemmas.{their_units, ascii_units}
use Rattle.enc_decoder.specs.declared.byte_codec.Kind.TheVariants.{Valid}
use Rattle.enc_decoder.specs.Sequence.{Sequence, sequence_text, any_malformed}
use Rattle.enc_decoder.specs.Segmentation.{Rule, sequences_of}
use Rattle.enc_decoder.specs.Taking.{IsWholeChar}
use Rattle.enc_decoder.proofs.SegmentationLemmas.{sequences_of-nil}
use Rattle.enc_decoder_utf.specs.Utf8.{utf_8_rule}
use Rattle.enc_decoder_utf.proofs.Utf8Pieces.{utf8_piece}
use Rattle.enc_decoder_iso_2022_jp.specs.declared.character_set.CharacterSet.TheVariants.{Ascii}
use Rattle.enc_decoder_iso_2022_jp.specs.Iso2022Jp.{iso_2022_jp_rule, one_byte_char}
use Rattle.enc_decoder_iso_2022_jp.proofs.Iso2022JpLemmas.{differs}
use Rattle.enc_decoder_iso_2022_jp.proofs.Iso2022JpPieces.{alone_piece}
use Rattle.enc_stream.specs.declared.bom.BomHandling.{BomHandling}
use Rattle.enc_stream.specs.declared.bom.BomHandling.TheVariants.{Off}
use Rattle.enc_stream.specs.declared.encoding.Encoding.{Encoding}
use Rattle.enc_stream.specs.declared.constants.TheConstants.{UTF_8, ISO_2022_JP}
use Rattle.enc_stream.specs.Bom.{marks_looked_for, find_mark}
use Rattle.enc_stream.specs.Encodings.{rule_of}
use Rattle.enc_stream.specs.Encoder.{is_utf_8}
use Rattle.enc_stream.specs.Decoding.{whole_encoding, whole_utf_8, whole_malformed}
use Rattle.enc_stream.specs.OneShot.{utf_8_without_replacement}
use Rattle.enc_stream.specs.OwnText.{AreTheirOwnText, IsItsOwnText, unmarked_bytes}
use Rattle.enc_stream.specs.Properties.{is_ascii_compatible}
use Rattle.enc_stream.proofs.OneShotDecodeLemmas.{none_whole}
use Rattle.enc_stream.proofs.PropertyLemmas.{shows_ascii_compatible}
use Rattle.enc_stream.proofs.FoundMarkLemmas.{unmarked_text, unmarked_flag}
use Rattle.std.proofs.Math.Seq.{take-length}

-- Each character of a text, in UTF-8, is a sequence, whatever follows.
abbrev pub EachIsOwn : Rule → List ℕ → Type 0
EachIsOwn rule [] = Unit {0}
EachIsOwn rule (c ∷ cs) = IsWholeChar rule 0 (encode_utf8 c) c × EachIsOwn rule cs

-- these sequences
abbrev pub own : List ℕ → List Sequence
own [] = []
own (c ∷ cs) = record { bytes = encode_utf8 c; text = c ∷ []; kind = Valid; set = 0 } ∷ own cs

pub own_text : (cs : List ℕ) → sequence_text (own cs) ≡ cs
own_text [] = refl
own_text (c ∷ cs) = ap (λ x. c ∷ x) (own_text cs)

pub own_valid : (cs : List ℕ) → any_malformed (own cs) ≡ false
own_valid [] = refl
own_valid (c ∷ cs) = own_valid cs

pub own_first : (rule : Rule) (cs z : List ℕ) → EachIsOwn rule cs
    → sequences_of rule 0 (encode_utf8_all cs ++ z) ≡ own cs ++ sequences_of rule 0 z
own_first rule [] z each = refl
own_first rule (c ∷ cs) z each =
    ap (sequences_of rule 0) (append_assoc (encode_utf8 c) (encode_utf8_all cs) z)
    ∙ each.0 (encode_utf8_all cs ++ z)
    ∙ ap (λ ss. record { bytes = encode_utf8 c; text = c ∷ []; kind = Valid; set = 0 } ∷ ss)
    (own_first rule cs z each.1)

-- bytes whose text is that of these characters
pub record HasOwnText (rule : Rule) (bytes : List ℕ) : Type 0 where
  pub text : List ℕ
  pub encoded : encode_utf8_all text ≡ bytes
  pub each : EachIsOwn rule text

module _ {rule : Rule} {bytes : List ℕ} (has_own : HasOwnText rule bytes) where
  all_own : sequences_of rule 0 bytes ≡ own has_own.text
  all_own =
      ap (sequences_of rule 0)
      (sym has_own.encoded ∙ sym (append-nil (encode_utf8_all has_own.text)))
      ∙ own_first rule has_own.text [] has_own.each
      ∙ ap (λ ss. own has_own.text ++ ss) (sequences_of-nil rule 0)
      ∙ append-nil (own has_own.text)

  same_text : units_of_text encode_utf8 (sequence_text (sequences_of rule 0 bytes)) ≡ bytes
  same_text =
      ap (λ ss. units_of_text encode_utf8 (sequence_text ss)) all_own
      ∙ ap (units_of_text encode_utf8) (own_text has_own.text)
      ∙ their_units has_own.text ∙ has_own.encoded

  none_malformed : any_malformed (sequences_of rule 0 bytes) ≡ false
  none_malformed = ap any_malformed all_own ∙ own_valid has_own.text

-- well-formed UTF-8

each_char : (cs : List ℕ) → all_scalars cs ≡ true → EachIsOwn utf_8_rule cs
each_char [] are_scalars = tt
each_char (c ∷ cs) are_scalars =
    let scalar_parts = and_parts _ _ are_scalars in
    (utf8_piece (encode_utf8 c) c (scalar_parts.0, refl), each_char cs scalar_parts.1)

utf_8_own : (bytes : List ℕ) → IsUtf8 bytes → HasOwnText utf_8_rule bytes
utf_8_own bytes utf8 = record {
  text = utf8.0;
  encoded = utf8.1.1;
  each = each_char utf8.0 utf8.1.0;
}

-- ASCII

pub ascii_encoded : (bs : List ℕ) → AreAscii bs → encode_utf8_all bs ≡ bs
ascii_encoded bs are_ascii = sym (their_units bs) ∙ ascii_units bs are_ascii

pub ascii_utf_8 : (bs : List ℕ) → AreAscii bs → IsUtf8 bs
ascii_utf_8 bs are_ascii = (bs, (ascii_scalars bs are_ascii, ascii_encoded bs are_ascii))

each_byte : (rule : Rule) (bs : List ℕ)
    → All (λ b. (b < 0x80) × IsWholeChar rule 0 (b ∷ []) b) bs → EachIsOwn rule bs
each_byte rule [] are_own = tt
each_byte rule (b ∷ bs) are_own =
    let first = are_own 0 0 (omega arith) in (
      subst (λ x. IsWholeChar rule 0 x b) (sym (encode_ascii b first.0)) first.1,
      each_byte rule bs (λ k d h. are_own (suc k) d (omega arith)),
    )

ascii_own : (rule : Rule) (bs : List ℕ) → AreAscii bs
    → ((b : ℕ) → b < 0x80 → IsWholeChar rule 0 (b ∷ []) b)
    → HasOwnText rule bs
ascii_own rule bs are_ascii are_whole = record {
  text = bs;
  encoded = ascii_encoded bs are_ascii;
  each = each_byte rule bs (λ k d h. (are_ascii k d h, are_whole _ (are_ascii k d h)));
}

-- ASCII of ISO-2022-JP

pub plain_ascii : (bs : List ℕ) → AreIso2022JpAscii bs → AreAscii bs
plain_ascii bs are_plain k d h = (are_plain k d h).0

plain_char : (b : ℕ) → b < 0x80 → b ≢ 0x0E → b ≢ 0x0F → b ≢ 0x1B → one_byte_char Ascii b ≡ Some b
unfolding one_byte_char
plain_char b is_low not_out not_in not_escape =
    let low : nat_lt b 0x80 ≡ true = grind (arith, nat_tests) in
    rw (low, differs b 0x0E not_out, differs b 0x0F not_in, differs b 0x1B not_escape) refl

plain_own : (bs : List ℕ) → AreIso2022JpAscii bs → HasOwnText iso_2022_jp_rule bs
plain_own bs are_plain = record {
  text = bs;
  encoded = ascii_encoded bs (plain_ascii bs are_plain);
  each = each_byte iso_2022_jp_rule bs (λ k d h. let plain = are_plain k d h in (
    plain.0,
    alone_piece Ascii _ _ (plain_char _ plain.0 plain.1 plain.2 plain.3),
  ));
}

-- in each encoding

pub has_own_text : (e : Encoding) (bytes : List ℕ) → AreTheirOwnText e bytes
    → HasOwnText (rule_of e) bytes
has_own_text e bytes (inl utf_8) =
    subst (λ (o : Encoding). HasOwnText (rule_of o) bytes) (sym utf_8.0)
    (utf_8_own bytes utf_8.1)
has_own_text e bytes (inr (inl ascii)) =
    ascii_own (rule_of e) bytes ascii.1 ((shows_ascii_compatible e).0 ascii.0)
has_own_text e bytes (inr (inr japanese)) =
    subst (λ (o : Encoding). HasOwnText (rule_of o) bytes) (sym japanese.0)
    (plain_own bytes japanese.1)

pub own_utf_8 : (e : Encoding) (bytes : List ℕ) → AreTheirOwnText e bytes → IsUtf8 bytes
own_utf_8 e bytes (inl utf_8) = utf_8.1
own_utf_8 e bytes (inr (inl ascii)) = ascii_utf_8 bytes ascii.1
own_utf_8 e bytes (inr (inr japanese)) = ascii_utf_8 bytes (plain_ascii bytes japanese.1)

-- a whole input

pub own_unmarked : (handling : BomHandling) (e : Encoding) (bytes : List ℕ)
    → whole_encoding handling e bytes ≡ e → unmarked_bytes handling e bytes ≡ bytes
    → AreTheirOwnText e bytes → IsItsOwnText handling e bytes
own_unmarked handling e bytes encoding rest own = rw (encoding, rest) own

module _ (handling : BomHandling) (e : Encoding) (bytes : List ℕ)
    (is_own : IsItsOwnText handling e bytes) where
  whole_has : HasOwnText (rule_of (whole_encoding handling e bytes))
      (unmarked_bytes handling e bytes)
  whole_has = has_own_text _ _ is_own

  pub whole_own_text : unmarked_bytes handling e bytes ≡ whole_utf_8 handling e bytes
  whole_own_text =
      sym (same_text whole_has)
      ∙ ap (units_of_text encode_utf8)
      (sym (unmarked_text (find_mark (marks_looked_for handling e) bytes) e bytes))

  pub whole_own_valid : false ≡ whole_malformed handling e bytes
  whole_own_valid =
      sym (none_malformed whole_has)
      ∙ sym (unmarked_flag (find_mark (marks_looked_for handling e) bytes) e bytes)

-- The longest prefix is the whole exactly if the whole has the property.

pub prefix_decides : (Has : List ℕ → Type 0) (bytes : List ℕ) (k : ℕ) (P : Type 0)
    → IsLongestPrefix Has bytes k → (Has bytes → P) → (P → Has bytes)
    → ((k == length bytes) ≡ true) ↔ P
prefix_decides Has bytes k P prefix to from =
    let whole : take (length bytes) bytes ≡ bytes = take-length bytes in (
      λ is_all. to (rw (eqb-true k (length bytes) is_all, whole) at prefix.has),
      λ p. elim (cases_lt k (length bytes)) [
        | inl shorter ↦ absurd (prefix.longest (length bytes) shorter (omega arith)
            (rw whole (from p)))
        | inr reaches ↦ (let within = prefix.within in grind (arith, nat_tests))
      ],
    )

-- which of the three a text is, by its encoding

pub only_plain : (e : Encoding) (bytes : List ℕ) → e ≡ ISO_2022_JP → AreTheirOwnText e bytes
    → AreIso2022JpAscii bytes
only_plain e bytes is_japanese (inl utf_8) =
    absurd (true≢false (ap (λ (o : Encoding). is_utf_8 o.id) (sym utf_8.0 ∙ is_japanese)))
only_plain e bytes is_japanese (inr (inl ascii)) =
    absurd (false≢true (ap is_ascii_compatible (sym is_japanese) ∙ ascii.0))
only_plain e bytes is_japanese (inr (inr japanese)) = japanese.1

pub only_ascii : (e : Encoding) (bytes : List ℕ) → ¬ (e ≡ UTF_8) → ¬ (e ≡ ISO_2022_JP)
    → AreTheirOwnText e bytes → (is_ascii_compatible e ≡ true) × AreAscii bytes
only_ascii e bytes not_utf_8 not_japanese (inl utf_8) = absurd (not_utf_8 utf_8.0)
only_ascii e bytes not_utf_8 not_japanese (inr (inl ascii)) = ascii
only_ascii e bytes not_utf_8 not_japanese (inr (inr japanese)) = absurd (not_japanese japanese.0)

-- answers of calls

pub copied_text : (handling : BomHandling) (e : Encoding) (bytes : List ℕ) {copy text : List ℕ}
    → IsItsOwnText handling e bytes → text ≡ unmarked_bytes handling e bytes
    → (bytes ≢ [] → copy ≡ text) → (bytes ≡ [] → copy ≡ []) → copy ≡ whole_utf_8 handling e bytes
copied_text handling e [] is_own is_rest is_text nothing =
    nothing refl
    ∙ ap (λ ss. units_of_text encode_utf8 (sequence_text ss)) (sym (none_whole handling e [] refl))
copied_text handling e (b ∷ bytes) is_own is_rest is_text nothing =
    is_text (λ none. cc) ∙ is_rest ∙ whole_own_text handling e (b ∷ bytes) is_own

pub strict_own : (e : Encoding) (bytes : List ℕ) {text : List ℕ} → IsItsOwnText Off e bytes
    → text ≡ whole_utf_8 Off e bytes → Some text ≡ utf_8_without_replacement e bytes
strict_own e bytes is_own is_text = rw (is_text, ← whole_own_valid Off e bytes is_own) refl
