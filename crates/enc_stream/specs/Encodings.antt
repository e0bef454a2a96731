-- The decoder's rule and the encoder's rule of each encoding, by its codec.
use Rattle.std.specs.Prelude.{ℕ, Option, Some, None, List}
use Rattle.enc_decoder.specs.Segmentation.{Rule}
use Rattle.enc_codec.specs.Codecs.{codec_rule}
use Rattle.enc_encoder.specs.EncoderRule.{EncoderRule}
use Rattle.enc_encoder.specs.Stateless.{stateless_rule}
use Rattle.enc_encoder.specs.Barring.{barring_rule}
use Rattle.enc_encode.specs.Utf8.{utf_8_bytes}
use Rattle.enc_encode.specs.Encoders.{encoder_rule}
use Rattle.enc_names.specs.declared.encoding_id.EncodingId.{EncodingId}
use Rattle.enc_stream.specs.declared.encoding.Encoding.{Encoding}
use Rattle.enc_names.specs.EncodingTable.{codec_by_id}

abbrev pub rule_by_id : EncodingId → Rule
rule_by_id id = codec_rule (codec_by_id id)

-- the rule of an encoding's decoder
abbrev pub rule_of : Encoding → Rule
rule_of e = rule_by_id e.id

-- a rule, or UTF-8's if there is none
abbrev pub rule_or_utf_8 : Option EncoderRule → EncoderRule
rule_or_utf_8 None = stateless_rule utf_8_bytes
rule_or_utf_8 (Some rule) = rule

-- The rule of the encoder of e's output encoding, with the characters b barred: e's own rule, or
-- UTF-8's if e has no encoder (Encoding Standard 4.3, "get an output encoding"). Its `bytes` says
-- which characters are mappable: those with bytes in the encoding that are not in the list.
abbrev pub output_rule : List ℕ → Encoding → EncoderRule
output_rule b e = barring_rule b (rule_or_utf_8 (encoder_rule (codec_by_id e.id)))
