-- The rest of a text in UTF-8 that a call of an encoder leaves unread.
use Rattle.std.proofs.Common.{◌≡◌, ℕ, true, List, [], ◌∷◌, ◌++◌, ◌≤◌, length, drop, refl, ap, ◌∙◌, sym, arith}
use Rattle.std.proofs.Common.{chars, IsUtf8}
use Rattle.std.proofs.lemmas.Str.{encodes-chars, chars-encodes, chars_from_encodes, IsCharBoundary-at_seam}
use Rattle.std.proofs.Math.Seq.{drop-append_seam}
use Rattle.std.specs.Str.{all_scalars, IsCharBoundary}
use Rattle.std.specs.Cmp.{second_so}
use Rattle.std.specs.Char.{encode_utf8}
use Rattle.std.specs.Char.Escape.{encode_utf16}
use Rattle.std.specs.Char.Utf16.{utf16_lossy_chars}
use Rattle.enc_utf8.specs.declared.coder_result.CoderResult.{CoderResult}
use Rattle.enc_utf8.specs.declared.coder_result.CoderResult.TheVariants.{InputEmpty}
use Rattle.enc_utf8.specs.Text.{units_of_text}
use Rattle.enc_utf8.proofs.UnitsLemmas.{their_units}
use Rattle.enc_input.proofs.CharsLemmas.{AreUnits, utf16_length, lossy_after}
use Rattle.enc_decoder.proofs.SequenceLemmas.{units_of_text-append}
use Rattle.enc_encoder.specs.ErrorMode.{CallInMode}
use Rattle.enc_input.specs.Results.{encoder_result_of}
use Rattle.enc_stream.specs.Encoder.{EncoderState, EncodesChunk, raw_state, html_mode}
use Rattle.enc_utf8.proofs.LengthLemmas.{lengths}
use Rattle.enc_encoder.proofs.ReferenceStopLemmas.{rest_is_read}

-- no bytes are no characters
pub no_chars : (text : List ℕ) → text ≡ [] → chars text ≡ []
no_chars text none = ap chars none ∙ chars-encodes [] refl

scalars_after : (xs ys : List ℕ) → all_scalars (xs ++ ys) ≡ true → all_scalars ys ≡ true
scalars_after [] ys are_scalars = are_scalars
scalars_after (c ∷ xs) ys are_scalars = scalars_after xs ys (second_so _ _ are_scalars)

module _ (text front rest : List ℕ) (n : ℕ) (is_utf_8 : IsUtf8 text)
    (parts : chars text ≡ front ++ rest)
    (size : n ≡ length (units_of_text encode_utf8 front)) where
  bytes_are : text ≡ units_of_text encode_utf8 front ++ units_of_text encode_utf8 rest
  bytes_are =
      sym (encodes-chars text is_utf_8) ∙ sym (their_units (chars text))
      ∙ ap (units_of_text encode_utf8) parts
      ∙ units_of_text-append encode_utf8 front rest

  rest_scalars : all_scalars rest ≡ true
  rest_scalars =
      scalars_after front rest (ap all_scalars (sym parts
      ∙ sym (chars_from_encodes is_utf_8.0 text is_utf_8 is_utf_8.1.1)) ∙ is_utf_8.1.0)

  rest_utf_8 : IsUtf8 (units_of_text encode_utf8 rest)
  rest_utf_8 = (rest, (rest_scalars, sym (their_units rest)))

  -- a call that reads these bytes ends between two characters, and leaves the others unread
  pub boundary : IsCharBoundary text n
  boundary =
      rw size (IsCharBoundary-at_seam text (units_of_text encode_utf8 front)
      (units_of_text encode_utf8 rest) bytes_are
      rest_utf_8)

  pub chars_after : chars (drop n text) ≡ rest
  chars_after =
      ap chars (ap (drop n) bytes_are
      ∙ ap (λ k. drop k (units_of_text encode_utf8 front ++ units_of_text encode_utf8 rest)) size
      ∙ drop-append_seam (units_of_text encode_utf8 front) (units_of_text encode_utf8 rest)
      ∙ their_units rest)
      ∙ chars-encodes rest rest_scalars

-- Where a call has come to the end of a text, no character is unread.
pub all_read : (result : CoderResult) → result ≡ InputEmpty
    → {old new : EncoderState} {c : CallInMode} → c.mode ≡ html_mode old
    → c.result ≡ encoder_result_of result → (encodes : EncodesChunk encode_utf8 old new c)
    → [] ≡ encodes.rest
all_read result at_end {new = new} {c} is_html result_is encodes =
    rest_is_read (raw_state new) encodes.rest c.last
    (rw (is_html, result_is, at_end) at encodes.call.stops)

-- The same in UTF-16, of which a call reads no more than there is.
module _ (text front rest : List ℕ) (n : ℕ) (are_units : AreUnits text)
    (parts : utf16_lossy_chars text ≡ front ++ rest)
    (size : n ≡ length (units_of_text encode_utf16 front)) where
  pub ends_within : n ≤ length text
  ends_within =
      let all = utf16_length text are_units
      ∙ ap (λ t. length (units_of_text encode_utf16 t)) parts
      ∙ ap length (units_of_text-append encode_utf16 front rest) in
      omega (arith, lengths, all, size)

  pub lossy_unread : utf16_lossy_chars (drop n text) ≡ rest
  lossy_unread = ap (λ k. utf16_lossy_chars (drop k text)) size
      ∙ lossy_after text are_units front rest parts
