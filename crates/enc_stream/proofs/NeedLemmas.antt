-- How many bytes a call of an encoder has to write, and which lengths are enough for it.
use Rattle.std.proofs.Common.{◌≡◌, ℕ, Option, Some, None, List, length, IfSome, ap, ◌∙◌, sym, subst}
use Rattle.std.proofs.Common.{arith}
use Rattle.std.specs.Char.{encode_utf8}
use Rattle.std.specs.Char.Escape.{encode_utf16}
use Rattle.enc_utf8.specs.Checked.{checked_add}
use Rattle.enc_index.specs.declared.codec.Codec.{Codec}
use Rattle.enc_encoder.specs.declared.byte_lengths.ByteLengths.{ByteLengths}
use Rattle.enc_encoder.specs.EncoderRule.{EncoderRule, RawEncoderState}
use Rattle.enc_encoder.specs.Lengths.{from_utf_8_length, from_utf_16_length}
use Rattle.enc_encoder.specs.Need.{AreEnoughForEncoder}
use Rattle.enc_encoder.specs.Steps.{step_chars}
use Rattle.enc_encoder.specs.Barring.{barring_rule}
use Rattle.enc_encoder.proofs.EnoughLemmas.{plus_is}
use Rattle.enc_encode.specs.declared.variant.VariantEncoder.{VariantEncoder}
use Rattle.enc_encode.specs.Encoders.{encoder_rule, encoder_lengths}
use Rattle.enc_encode.specs.Variant.{variant_encoder_state}
use Rattle.enc_encode.proofs.EncoderLaws.{enough_of}
use Rattle.enc_stream.proofs.EncoderLemmas.{rule_of_facts}
use Rattle.enc_encoder.specs.ErrorMode.{Fatal, CallInMode}
use Rattle.enc_encoder.proofs.NeedInModeLemmas.{reporting_meets_need, reads_all}
use Rattle.enc_stream.specs.Encodings.{rule_or_utf_8}
use Rattle.enc_stream.specs.Encoder.{EncoderState, raw_state, room_kept_for_references, EncodesChunk}
use Rattle.enc_stream.specs.Need.{EncodesByNeed, IsEnoughForEncoding, IsEnoughIfMappable}

-- a call that reports unmappable characters meets its need

pub by_need : {units_of : ℕ → List ℕ} {c : CallInMode} {written : ℕ} → length c.wrote ≡ written
    → {old new : EncoderState} → c.mode ≡ Fatal → EncodesChunk units_of old new c
    → EncodesByNeed units_of old new c.src c.last c.room c.result c.read written
by_need count is_fatal encodes =
    rw (← count) (record {
      front = step_chars encodes.call.done;
      rest = encodes.rest;
      parts = encodes.call.reads;
      units = encodes.call.units;
      meets = reporting_meets_need encodes.call is_fatal;
    })

-- the length that a query answers is enough for its calls

pub enough_in : (b : List ℕ) (c : Codec) (v : VariantEncoder)
    → (variant_encoder_state v).rule ≡ barring_rule b (rule_or_utf_8 (encoder_rule c))
    → AreEnoughForEncoder (encoder_lengths c) (record {
      rule = barring_rule b (rule_or_utf_8 (encoder_rule c));
      set = (variant_encoder_state v).set;
    })
enough_in b c v rule_is =
    let of_rule : EncoderRule → RawEncoderState = λ rule. record {
      rule = barring_rule b rule;
      set = (variant_encoder_state v).set;
    } in
    subst (λ rule. AreEnoughForEncoder (encoder_lengths c) (of_rule rule)) (rule_of_facts c)
    (enough_of b c v (rule_is ∙ ap (barring_rule b) (sym (rule_of_facts c))))

module _ (lengths : ByteLengths) (v : EncoderState)
    (enough : AreEnoughForEncoder lengths (raw_state v)) (n : ℕ) where
  pub enough_from_utf_8 : (result : Option ℕ) → result ≡ from_utf_8_length lengths n
      → IfSome result (IsEnoughForEncoding encode_utf8 v n)
  enough_from_utf_8 None e = tt
  enough_from_utf_8 (Some answer) e =
      λ src last units. enough.from_utf_8 src last answer
      (ap (from_utf_8_length lengths) units ∙ sym e)

  pub enough_from_utf_16 : (result : Option ℕ) → result ≡ from_utf_16_length lengths n
      → IfSome result (IsEnoughForEncoding encode_utf16 v n)
  enough_from_utf_16 None e = tt
  enough_from_utf_16 (Some answer) e =
      λ src last units. enough.from_utf_16 src last answer
      (ap (from_utf_16_length lengths) units ∙ sym e)

module _ (units_of : ℕ → List ℕ) (v : EncoderState) (n : ℕ) where
  -- with the bytes that are kept back
  pub enough_if_mappable : (length : Option ℕ) → IfSome length (IsEnoughForEncoding units_of v n)
      → (result : Option ℕ) →
      result ≡ checked_add length (room_kept_for_references v.barred v.encoding)
      → IfSome result (IsEnoughIfMappable units_of v n)
  enough_if_mappable length h None e = tt
  enough_if_mappable None h (Some q) e = cc
  enough_if_mappable (Some a) h (Some q) e =
      λ new c is_html units mappable fits made.
      let sum = plus_is (Some a) (room_kept_for_references v.barred v.encoding) q (sym e) in
      let same : sum.0 ≡ a = cc in
      reads_all made.call (room_kept_for_references v.barred v.encoding) is_html mappable
      (omega (arith, h c.src c.last units, sum.1.1, same, fits))
