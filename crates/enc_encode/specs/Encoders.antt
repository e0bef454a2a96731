-- The rule and the formulas of each encoding's encoder, if it has one (Encoding Standard 4.3, "get an
-- encoder").
-- Written by scripts/make-sources from data/templates: change the text there, and not this file.
use Rattle.std.specs.Prelude.{ℕ, true, false, Option, Some, None, List, option_map}
use Rattle.enc_index.specs.declared.codec.Codec.{Codec}
use Rattle.enc_index.specs.declared.codec.Codec.TheVariants as codec
use Rattle.enc_encoder.specs.EncoderRule.{EncoderRule}
use Rattle.enc_encoder.specs.declared.byte_lengths.ByteLengths.{ByteLengths}
use Rattle.enc_encoder.specs.declared.byte_lengths.ByteLengths.TheVariants as lengths
use Rattle.enc_encoder.specs.Stateless.{stateless_rule}
use Rattle.enc_encode.specs.Utf8.{utf_8_bytes}
use Rattle.enc_encode.specs.SingleByte.{single_byte_bytes, x_user_defined_bytes}
use Rattle.enc_encode.specs.Big5.{big5_bytes}
use Rattle.enc_encode.specs.EucKr.{euc_kr_bytes}
use Rattle.enc_encode.specs.ShiftJis.{shift_jis_bytes}
use Rattle.enc_encode.specs.EucJp.{euc_jp_bytes}
use Rattle.enc_encode.specs.Gb18030.{gb18030_bytes}
use Rattle.enc_encode.specs.Iso2022Jp.{iso_2022_jp_encoder_rule}

-- the rule of an encoder, and its formulas for lengths to allocate
pub record EncoderFacts : Type 0 where
  pub rule : EncoderRule
  pub formulas : ByteLengths

-- without escape sequences: the formulas, and the bytes of each character
abbrev pub stateless_facts : ByteLengths → (ℕ → Option (List ℕ)) → EncoderFacts
stateless_facts formulas bytes = record { rule = stateless_rule bytes; formulas = formulas }

-- the facts of a codec's encoder, if it has one
abbrev pub encoder_facts : Codec → Option EncoderFacts
encoder_facts codec.Utf8 = Some (stateless_facts lengths.Utf8 utf_8_bytes)
encoder_facts codec.Utf16Be = None
encoder_facts codec.Utf16Le = None
encoder_facts (codec.SingleByte index) = Some (stateless_facts lengths.OneByte (single_byte_bytes index))
encoder_facts codec.Big5 = Some (stateless_facts lengths.TwoBytes big5_bytes)
encoder_facts codec.EucKr = Some (stateless_facts lengths.TwoBytes euc_kr_bytes)
encoder_facts codec.ShiftJis = Some (stateless_facts lengths.TwoBytes shift_jis_bytes)
encoder_facts codec.EucJp = Some (stateless_facts lengths.TwoBytes euc_jp_bytes)
encoder_facts codec.Gbk = Some (stateless_facts lengths.TwoBytes (gb18030_bytes true))
encoder_facts codec.Gb18030 = Some (stateless_facts lengths.Gb18030 (gb18030_bytes false))
encoder_facts codec.XUserDefined = Some (stateless_facts lengths.OneByte x_user_defined_bytes)
encoder_facts codec.Replacement = None
encoder_facts codec.Iso2022Jp = Some (record { rule = iso_2022_jp_encoder_rule; formulas = lengths.Iso2022Jp })

-- The rule alone. If a caller bars the characters b, the rule is `barring_rule b` of this.
abbrev pub encoder_rule : Codec → Option EncoderRule
encoder_rule c = option_map (λ (f : EncoderFacts). f.rule) (encoder_facts c)

-- facts, or UTF-8's if there are none
abbrev pub facts_or_utf_8 : Option EncoderFacts → EncoderFacts
facts_or_utf_8 None = stateless_facts lengths.Utf8 utf_8_bytes
facts_or_utf_8 (Some f) = f

-- the facts of the output encoding: UTF-8's if the codec has no encoder
abbrev pub output_facts : Codec → EncoderFacts
output_facts c = facts_or_utf_8 (encoder_facts c)

-- the formulas for lengths to allocate in the output encoding
abbrev pub encoder_lengths : Codec → ByteLengths
encoder_lengths c = (output_facts c).formulas
