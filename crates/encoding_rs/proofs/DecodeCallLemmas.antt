-- The text of one call of a run, and the bytes that it is offered.
use Rattle.std.proofs.Common.{◌≡◌, ℕ, Bool, true, false, true≢false, List, [], ◌++◌, length, take, refl, ap, ◌∙◌}
use Rattle.std.proofs.Common.{sym, append-nil}
use Rattle.std.proofs.lemmas.List.{take_min}
use Rattle.std.proofs.Math.Seq.{take-append_seam}
use Rattle.std.specs.Prelude.{min}
use Rattle.std.specs.Char.{encode_utf8}
use Rattle.std.specs.Char.Escape.{encode_utf16}
use Rattle.std.specs.Char.Utf16.{utf16_lossy_chars}
use Rattle.std.specs.Str.{encode_utf8_all}
use Rattle.enc_output.specs.declared.decoder_result.DecoderResult.{DecoderResult}
use Rattle.enc_output.specs.declared.decoder_result.DecoderResult.TheVariants.{InputEmpty, OutputFull, Malformed}
use Rattle.enc_utf8.specs.Text.{AreScalars, DetermineTexts, units_of_text}
use Rattle.encoding_rs.specs.Run.{units_of_call, is_malformed_result, replacement_text}
use Rattle.enc_utf8.proofs.UnitsLemmas.{utf_8_determines, utf_16_determines, utf_16_read_back, their_units}

-- a call is offered n bytes, or all if there are fewer
pub offered : (n k : ℕ) (bytes chunk : List ℕ) → chunk ≡ take k bytes → k ≡ min n (length bytes)
    → chunk ≡ take n bytes
offered n k bytes chunk h e = h ∙ ap (λ i. take i bytes) e ∙ take_min n bytes

-- a buffer cut to the n new bytes at its front is these bytes
pub refilled : (n : ℕ) (all new after : List ℕ) → all ≡ take n (new ++ after) → length new ≡ n
    → all ≡ new
refilled n all new after h e = h ∙ ap (λ k. take k (new ++ after)) (sym e)
    ∙ take-append_seam new after

-- the units of either kind determine a text
pub determined_by : (utf16 : Bool) → DetermineTexts (units_of_call utf16)
determined_by true = utf_16_determines
determined_by false = utf_8_determines

-- the text appended for a reported malformed sequence

pub nothing_for : (r : DecoderResult) → is_malformed_result r ≡ false
    → units_of_text encode_utf8 (replacement_text r) ≡ []
nothing_for InputEmpty e = refl
nothing_for OutputFull e = refl
nothing_for (Malformed l a) e = absurd (true≢false e)

pub replacement_for : (r : DecoderResult) → is_malformed_result r ≡ true
    → units_of_text encode_utf8 (replacement_text r) ≡ encode_utf8 0xFFFD
replacement_for InputEmpty e = absurd (true≢false (sym e))
replacement_for OutputFull e = absurd (true≢false (sym e))
replacement_for (Malformed l a) e = append-nil (encode_utf8 0xFFFD)

-- the UTF-8 of a text by its UTF-16
pub by_utf_16 : {units wrote utf_8 : List ℕ} (text : List ℕ) → wrote ≡ units
    → utf_8 ≡ encode_utf8_all (utf16_lossy_chars units) → AreScalars text
    → wrote ≡ units_of_text encode_utf16 text
    → utf_8 ≡ units_of_text encode_utf8 text
by_utf_16 text same_units read_back scalars written =
    read_back ∙ ap (λ x. encode_utf8_all (utf16_lossy_chars x)) (sym same_units ∙ written)
    ∙ ap encode_utf8_all (utf_16_read_back text scalars) ∙ sym (their_units text)
