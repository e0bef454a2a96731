-- The state of a decoder of any encoding, and its formulas for lengths.
-- Written by scripts/make-sources from data/templates: change the text there, and not this file.
use Rattle.std.specs.Prelude.{[]}
use Rattle.enc_codec.specs.declared.variant.VariantDecoder.{VariantDecoder}
use Rattle.enc_codec.specs.declared.variant.VariantDecoder.TheVariants as decoder
use Rattle.enc_decoder.specs.CodecState.{CodecState}
use Rattle.enc_decoder.specs.declared.text_lengths.TextLengths.{TextLengths}
use Rattle.enc_decoder.specs.declared.text_lengths.TextLengths.TheVariants as lengths
use Rattle.enc_decoder_utf.specs.Utf8.{utf_8_prefix}
use Rattle.enc_decoder_utf.specs.Utf16.{utf_16_prefix}
use Rattle.enc_index.specs.Runs.{single_byte_runs}
use Rattle.enc_decoder_single_byte.specs.OneByte.{one_byte_prefix, single_byte_char, x_user_defined_char}
use Rattle.enc_decoder.specs.Pending.{bytes_of_pending}
use Rattle.enc_decoder.specs.Prefixes.{prefix_state}
use Rattle.enc_decoder_multi_byte.specs.Big5.{big5_prefix}
use Rattle.enc_decoder_multi_byte.specs.EucKr.{euc_kr_prefix}
use Rattle.enc_decoder_multi_byte.specs.ShiftJis.{shift_jis_prefix}
use Rattle.enc_decoder_multi_byte.specs.EucJp.{euc_jp_prefix}
use Rattle.enc_decoder_multi_byte.specs.Gb18030.{gb18030_prefix}
use Rattle.enc_decoder_single_byte.specs.Replacement.{replacement_state}
use Rattle.enc_decoder_iso_2022_jp.specs.Iso2022JpState.{iso_2022_jp_state}

abbrev pub variant_decoder_state : VariantDecoder → CodecState
variant_decoder_state (decoder.Utf8 d) = prefix_state utf_8_prefix (bytes_of_pending d)
variant_decoder_state (decoder.Utf16 d) =
    prefix_state (utf_16_prefix d.big_endian) (bytes_of_pending d.pending)
variant_decoder_state (decoder.SingleByte d) =
    prefix_state (one_byte_prefix (single_byte_char (single_byte_runs d.encoding))) []
variant_decoder_state (decoder.Big5 d) = prefix_state big5_prefix (bytes_of_pending d.pending)
variant_decoder_state (decoder.EucKr d) = prefix_state euc_kr_prefix (bytes_of_pending d.pending)
variant_decoder_state (decoder.ShiftJis d) = prefix_state shift_jis_prefix (bytes_of_pending d.pending)
variant_decoder_state (decoder.EucJp d) = prefix_state euc_jp_prefix (bytes_of_pending d.pending)
variant_decoder_state (decoder.Gb18030 d) = prefix_state gb18030_prefix (bytes_of_pending d.pending)
variant_decoder_state (decoder.XUserDefined d) =
    prefix_state (one_byte_prefix x_user_defined_char) []
variant_decoder_state (decoder.Replacement d) = replacement_state d
variant_decoder_state (decoder.Iso2022Jp d) = iso_2022_jp_state d

-- its formulas for lengths to allocate
abbrev pub variant_decoder_lengths : VariantDecoder → TextLengths
variant_decoder_lengths (decoder.Utf8 d) = lengths.Utf8
variant_decoder_lengths (decoder.Utf16 d) = lengths.Utf16
variant_decoder_lengths (decoder.SingleByte d) = lengths.OneByte
variant_decoder_lengths (decoder.Big5 d) = lengths.MultiByte
variant_decoder_lengths (decoder.EucKr d) = lengths.MultiByte
variant_decoder_lengths (decoder.ShiftJis d) = lengths.MultiByte
variant_decoder_lengths (decoder.EucJp d) = lengths.MultiByte
variant_decoder_lengths (decoder.Gb18030 d) = lengths.MultiByte
variant_decoder_lengths (decoder.XUserDefined d) = lengths.OneByte
variant_decoder_lengths (decoder.Replacement d) = lengths.Replacement
variant_decoder_lengths (decoder.Iso2022Jp d) = lengths.MultiByte
