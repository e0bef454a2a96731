-- The rule of each codec's decoder, and what is known of it: its formulas for lengths, and properties.
-- Written by scripts/make-sources from data/templates: change the text there, and not this file.
use Rattle.std.specs.Prelude.{Bool, true, false, []}
use Rattle.enc_index.specs.declared.codec.Codec.{Codec}
use Rattle.enc_index.specs.declared.codec.Codec.TheVariants as codec
use Rattle.enc_index.specs.Runs.{single_byte_runs}
use Rattle.enc_decoder.specs.Segmentation.{Rule}
use Rattle.enc_decoder.specs.CodecState.{CodecState}
use Rattle.enc_decoder.specs.declared.text_lengths.TextLengths.{TextLengths}
use Rattle.enc_decoder.specs.declared.text_lengths.TextLengths.TheVariants as lengths
use Rattle.enc_decoder_utf.specs.Utf8.{utf_8_rule}
use Rattle.enc_decoder_utf.specs.Utf16.{utf_16_rule}
use Rattle.enc_decoder_single_byte.specs.OneByte.{one_byte_rule, single_byte_char, x_user_defined_char}
use Rattle.enc_decoder.specs.Prefixes.{prefix_rule}
use Rattle.enc_decoder_multi_byte.specs.Big5.{big5_prefix}
use Rattle.enc_decoder_multi_byte.specs.EucKr.{euc_kr_prefix}
use Rattle.enc_decoder_multi_byte.specs.ShiftJis.{shift_jis_prefix}
use Rattle.enc_decoder_multi_byte.specs.EucJp.{euc_jp_prefix}
use Rattle.enc_decoder_multi_byte.specs.Gb18030.{gb18030_prefix}
use Rattle.enc_decoder_single_byte.specs.Replacement.{replacement_rule}
use Rattle.enc_decoder_iso_2022_jp.specs.Iso2022Jp.{iso_2022_jp_rule}

abbrev pub codec_rule : Codec → Rule
codec_rule codec.Utf8 = utf_8_rule
codec_rule codec.Utf16Be = utf_16_rule true
codec_rule codec.Utf16Le = utf_16_rule false
codec_rule (codec.SingleByte index) = one_byte_rule (single_byte_char (single_byte_runs index))
codec_rule codec.Big5 = prefix_rule big5_prefix
codec_rule codec.EucKr = prefix_rule euc_kr_prefix
codec_rule codec.ShiftJis = prefix_rule shift_jis_prefix
codec_rule codec.EucJp = prefix_rule euc_jp_prefix
codec_rule codec.Gbk = prefix_rule gb18030_prefix
codec_rule codec.Gb18030 = prefix_rule gb18030_prefix
codec_rule codec.XUserDefined = one_byte_rule x_user_defined_char
codec_rule codec.Replacement = replacement_rule
codec_rule codec.Iso2022Jp = iso_2022_jp_rule

-- a decoder of this rule that has read nothing
abbrev pub initial_state : Rule → CodecState
initial_state rule = record { rule = rule; set = 0; pending = [] }

-- What the crates above know of a codec beside its rule: the formulas for lengths to allocate,
-- whether each sequence has a text, whether some byte is a valid sequence by itself, and whether the
-- rule is ASCII-compatible and single-byte. `KeepsCodecLaws` says when this is true of a rule.
pub record CodecFacts : Type 0 where
  pub formulas : TextLengths
  pub has_texts : Bool
  pub has_bytes : Bool
  pub ascii_compatible : Bool
  pub single_byte : Bool

-- the facts of each family, and of the codecs that are in none

abbrev pub utf_8_facts : CodecFacts
utf_8_facts = record {
  formulas = lengths.Utf8;
  has_texts = true;
  has_bytes = true;
  ascii_compatible = true;
  single_byte = false;
}

abbrev pub utf_16_facts : CodecFacts
utf_16_facts = record {
  formulas = lengths.Utf16;
  has_texts = true;
  has_bytes = false;
  ascii_compatible = false;
  single_byte = false;
}

abbrev pub one_byte_facts : CodecFacts
one_byte_facts = record {
  formulas = lengths.OneByte;
  has_texts = true;
  has_bytes = true;
  ascii_compatible = true;
  single_byte = true;
}

abbrev pub multi_byte_facts : CodecFacts
multi_byte_facts = record {
  formulas = lengths.MultiByte;
  has_texts = true;
  has_bytes = true;
  ascii_compatible = true;
  single_byte = false;
}

abbrev pub replacement_facts : CodecFacts
replacement_facts = record {
  formulas = lengths.Replacement;
  has_texts = false;
  has_bytes = false;
  ascii_compatible = false;
  single_byte = false;
}

abbrev pub iso_2022_jp_facts : CodecFacts
iso_2022_jp_facts = record {
  formulas = lengths.MultiByte;
  has_texts = false;
  has_bytes = true;
  ascii_compatible = false;
  single_byte = false;
}

-- Most codecs are of legacy multi-byte encodings.
abbrev pub codec_facts : Codec → CodecFacts
codec_facts codec.Utf8 = utf_8_facts
codec_facts codec.Utf16Be = utf_16_facts
codec_facts codec.Utf16Le = utf_16_facts
codec_facts (codec.SingleByte index) = one_byte_facts
codec_facts codec.XUserDefined = one_byte_facts
codec_facts codec.Replacement = replacement_facts
codec_facts codec.Iso2022Jp = iso_2022_jp_facts
codec_facts _ = multi_byte_facts

-- the formulas for lengths to allocate
abbrev pub codec_lengths : Codec → TextLengths
codec_lengths c = (codec_facts c).formulas
