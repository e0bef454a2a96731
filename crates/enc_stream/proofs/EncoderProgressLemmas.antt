-- How much room a call of an encoder needs to make progress, and where a text may end.
use Rattle.std.proofs.Common.{◌≡◌, ℕ, ◌+◌, ◌≤◌, Bool, true, false, List, [], refl, ap, arith, if◌then◌else◌}
use Rattle.enc_utf8.specs.declared.coder_result.CoderResult.{CoderResult}
use Rattle.enc_utf8.specs.declared.coder_result.CoderResult.TheVariants.{InputEmpty, OutputFull}
use Rattle.enc_input.specs.declared.encoder_result.EncoderResult.TheVariants as raw
use Rattle.enc_input.specs.Results.{encoder_result_of}
use Rattle.enc_encoder.specs.declared.character_set.CharacterSet.TheVariants.{Ascii}
use Rattle.enc_encoder.specs.Text.{escape_at_end}
use Rattle.enc_encoder.specs.Barring.{barring_rule}
use Rattle.enc_encode.specs.Encoders.{encoder_rule}
use Rattle.enc_names.specs.declared.encoding_id.EncodingId.{EncodingId}
use Rattle.enc_names.specs.declared.encoding_id.EncodingId.TheVariants.{Utf16be, Utf16le, Replacement}
use Rattle.enc_stream.specs.declared.encoding.Encoding.{Encoding}
use Rattle.enc_names.specs.EncodingTable.{codec_by_id, output_by_id}
use Rattle.enc_stream.specs.Encodings.{rule_or_utf_8, output_rule}
use Rattle.enc_stream.specs.Properties.{output_encoding_of}
use Rattle.enc_stream.proofs.ReferenceLemmas.{lawful_of}

-- a call with 14 bytes has room for a step beside the bytes kept free,
pub beside_ten : {room : ℕ} → 14 ≤ room → (every : Bool) → 4 + (if every then 0 else 10) ≤ room
beside_ten enough true = omega (arith, enough)
beside_ten enough false = omega (arith, enough)

-- and one with four bytes, if none are kept free
pub beside_none : {room kept : ℕ} → kept ≡ 0 → 4 ≤ room → 4 + kept ≤ room
beside_none none_kept enough = omega (arith, none_kept, enough)

pub not_ended : (result : CoderResult) → (result ≡ InputEmpty → ⊥)
    → encoder_result_of result ≡ raw.InputEmpty → ⊥
not_ended InputEmpty goes_on is_empty = goes_on refl
not_ended OutputFull goes_on is_empty = cc

-- Where ASCII is designated no escape sequence is due.
pub none_due : (b : List ℕ) (e : Encoding)
    → escape_at_end ((output_rule b e).set_after Ascii []) ≡ []
none_due b e = ap escape_at_end ((lawful_of b e).set_after_none Ascii)

-- The output encoding has the rule by which a text is written.
pub same_rule : (id : EncodingId) → rule_or_utf_8 (encoder_rule (codec_by_id (output_by_id id)))
    ≡ rule_or_utf_8 (encoder_rule (codec_by_id id))
same_rule Replacement = refl
same_rule Utf16be = refl
same_rule Utf16le = refl
same_rule _ = refl

pub output_rule_is : (b : List ℕ) (e : Encoding)
    → output_rule b (output_encoding_of e) ≡ output_rule b e
output_rule_is b e = ap (barring_rule b) (same_rule e.id)
