-- The start of a text that is written as its UTF-8, and the rest of the text.
use Rattle.std.proofs.Common.{◌≡◌, ℕ, ◌<◌, false, List, []}
use Rattle.std.proofs.Common.{◌++◌, ◌∷◌, length, take, drop, Some, true, refl, ap, ◌∙◌, sym, chars}
use Rattle.std.proofs.Common.{IsUtf8}
use Rattle.std.proofs.Math.Seq.{take-length, drop-length}
use Rattle.std.proofs.lemmas.List.{take-append-drop}
use Rattle.std.proofs.lemmas.Str.{chars-append, chars_from_encodes}
use Rattle.enc_utf8.specs.Validity.{AreAscii}
use Rattle.enc_encoder.specs.declared.character_set.CharacterSet.{CharacterSet}
use Rattle.enc_encoder.specs.declared.character_set.CharacterSet.TheVariants.{Ascii, Roman, Jis0208}
use Rattle.enc_encoder.specs.EncoderRule.{is_escape_due}
use Rattle.enc_stream.specs.declared.constants.TheConstants.{UTF_8}
use Rattle.enc_stream.specs.Encoder.{EncoderState, raw_state}
use Rattle.enc_stream.proofs.OwnTextLemmas.{ascii_encoded, ascii_utf_8}
use Rattle.enc_stream.proofs.OwnBytesLemmas.{EachIsOwnChar, each_of_bytes}
use Rattle.enc_stream.proofs.UnreadTextLemmas.{no_chars}
use Rattle.enc_writer.specs.EncodedText.{text_to_encode, EncodesText}
use Rattle.enc_writer.proofs.EncodingLemmas.{EncodesText-own, EncodesText-utf_8}

-- ASCII is designated if no escape sequence is due
pub is_ascii : (s : CharacterSet) → is_escape_due s ≡ false → s ≡ Ascii
is_ascii Ascii none_due = refl
is_ascii Roman none_due = cc
is_ascii Jis0208 none_due = cc

module _ (text : List ℕ) (n : ℕ) (are_ascii : AreAscii (take n text)) where
  chars_are : chars text ≡ take n text ++ chars (drop n text)
  chars_are =
      let utf_8 = ascii_utf_8 (take n text) are_ascii in
      ap chars (sym (take-append-drop n text))
      ∙ chars-append (take n text) (drop n text) utf_8
      ∙ ap (λ x. x ++ chars (drop n text))
      (sym (chars_from_encodes (take n text) (take n text) utf_8
      (ascii_encoded (take n text) are_ascii)))

  -- n bytes of ASCII, in an encoding that has it as itself
  pub EncodesText-ascii : (s : EncoderState) → s.set ≡ Ascii
      → ((c : ℕ) → c < 0x80 → (raw_state s).rule.bytes c ≡ Some (c ∷ []))
      → ((c : ℕ) → c < 0x80 → (raw_state s).rule.has Ascii c ≡ true)
      → EncodesText (text_to_encode s (chars text)) (text_to_encode s (chars (drop n text))) false
      (take n text) false
  EncodesText-ascii s in_ascii bytes has =
      let front = take n text in
      let each : EachIsOwnChar (raw_state s).rule front =
      each_of_bytes (raw_state s).rule front (λ k d h. let is_ascii = are_ascii k d h in
      (is_ascii, (bytes _ is_ascii, has _ is_ascii))) in
      rw (← chars_are, ascii_encoded front are_ascii)
      at (EncodesText-own s front (chars (drop n text)) false in_ascii each)

-- all of a text, in UTF-8
pub EncodesText-whole : (s : EncoderState) (text : List ℕ) → s.encoding ≡ UTF_8 → s.set ≡ Ascii
    → s.barred ≡ [] → IsUtf8 text
    → EncodesText (text_to_encode s (chars text))
    (text_to_encode s (chars (drop (length text) text))) false (take (length text) text) false
EncodesText-whole s text is_utf_8 in_ascii none_barred utf_8 =
    rw (no_chars (drop (length text) text) (drop-length text), take-length text)
    (EncodesText-utf_8 s text false is_utf_8 (in_ascii, none_barred) utf_8)
