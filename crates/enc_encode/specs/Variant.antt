-- The state of an encoder of any encoding, and its formulas for lengths.
-- Written by scripts/make-sources from data/templates: change the text there, and not this file.
use Rattle.enc_encode.specs.declared.variant.VariantEncoder.{VariantEncoder}
use Rattle.enc_encode.specs.declared.variant.VariantEncoder.TheVariants as encoder
use Rattle.enc_encoder.specs.EncoderRule.{RawEncoderState}
use Rattle.enc_encoder.specs.declared.byte_lengths.ByteLengths.{ByteLengths}
use Rattle.enc_encoder.specs.declared.byte_lengths.ByteLengths.TheVariants as lengths
use Rattle.enc_encoder.specs.Stateless.{stateless_state}
use Rattle.enc_encoder.specs.Barring.{bytes_unless_barred}
use Rattle.enc_encode.specs.Utf8.{utf_8_bytes}
use Rattle.enc_encode.specs.SingleByte.{single_byte_bytes, x_user_defined_bytes}
use Rattle.enc_encode.specs.Big5.{big5_bytes}
use Rattle.enc_encode.specs.EucKr.{euc_kr_bytes}
use Rattle.enc_encode.specs.ShiftJis.{shift_jis_bytes}
use Rattle.enc_encode.specs.EucJp.{euc_jp_bytes}
use Rattle.enc_encode.specs.Gb18030.{gb18030_bytes, gb18030_lengths}
use Rattle.enc_encode.specs.Iso2022Jp.{iso_2022_jp_encoder_state}

-- its rule, with the characters barred that its caller bars
abbrev pub variant_encoder_state : VariantEncoder → RawEncoderState
variant_encoder_state (encoder.Utf8 e) =
    stateless_state (bytes_unless_barred e.repertoire.barred.now utf_8_bytes)
variant_encoder_state (encoder.SingleByte e) =
    stateless_state (bytes_unless_barred e.repertoire.barred.now
    (single_byte_bytes e.repertoire.repertoire.index))
variant_encoder_state (encoder.Big5 e) =
    stateless_state (bytes_unless_barred e.repertoire.barred.now big5_bytes)
variant_encoder_state (encoder.EucKr e) =
    stateless_state (bytes_unless_barred e.repertoire.barred.now euc_kr_bytes)
variant_encoder_state (encoder.ShiftJis e) =
    stateless_state (bytes_unless_barred e.repertoire.barred.now shift_jis_bytes)
variant_encoder_state (encoder.EucJp e) =
    stateless_state (bytes_unless_barred e.repertoire.barred.now euc_jp_bytes)
variant_encoder_state (encoder.Gb18030 e) = stateless_state (bytes_unless_barred e.repertoire.barred.now
    (gb18030_bytes e.repertoire.repertoire.is_gbk))
variant_encoder_state (encoder.XUserDefined e) =
    stateless_state (bytes_unless_barred e.repertoire.barred.now x_user_defined_bytes)
variant_encoder_state (encoder.Iso2022Jp e) = iso_2022_jp_encoder_state e.barred.now e.set

-- its formulas for lengths to allocate
abbrev pub variant_encoder_lengths : VariantEncoder → ByteLengths
variant_encoder_lengths (encoder.Utf8 e) = lengths.Utf8
variant_encoder_lengths (encoder.SingleByte e) = lengths.OneByte
variant_encoder_lengths (encoder.Big5 e) = lengths.TwoBytes
variant_encoder_lengths (encoder.EucKr e) = lengths.TwoBytes
variant_encoder_lengths (encoder.ShiftJis e) = lengths.TwoBytes
variant_encoder_lengths (encoder.EucJp e) = lengths.TwoBytes
variant_encoder_lengths (encoder.Gb18030 e) = gb18030_lengths e.repertoire.repertoire.is_gbk
variant_encoder_lengths (encoder.XUserDefined e) = lengths.OneByte
variant_encoder_lengths (encoder.Iso2022Jp e) = lengths.Iso2022Jp
