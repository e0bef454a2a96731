-- Each decoder reads back the bytes of its encoder: the one list that goes through all codecs.
-- Written by scripts/make-sources from data/templates: change the text there, and not this file.
use Rattle.std.proofs.Common.{◌≡◌, ℕ, true, false, Option, Some, None, List, map}
use Rattle.enc_utf8.specs.Text.{AreScalars}
use Rattle.enc_index.specs.declared.codec.Codec.{Codec}
use Rattle.enc_codec.specs.Codecs.{codec_rule}
use Rattle.enc_encoder.specs.declared.character_set.CharacterSet.TheVariants.{Ascii}
use Rattle.enc_encoder.specs.EncoderRule.{EncoderRule}
use Rattle.enc_encoder.specs.Text.{bytes_of_text}
use Rattle.enc_encode.specs.Encoders.{encoder_rule}
use Rattle.enc_encoder.specs.Unmappable.{any_unmappable}
use Rattle.enc_round_trip.specs.RoundTrip.{char_read_back}
use Rattle.enc_round_trip.proofs.ReadBackLemmas.{IsReadAs, text_is_read}
use Rattle.enc_round_trip.proofs.OneByteBack.{utf_8_is_read, single_byte_is_read, x_user_defined_is_read}
use Rattle.enc_round_trip.proofs.ShiftJisBack.{shift_jis_is_read}
use Rattle.enc_round_trip.proofs.EucJpBack.{euc_jp_is_read}
use Rattle.enc_round_trip.proofs.Gb18030Back.{gb18030_is_read}
use Rattle.enc_round_trip.proofs.Iso2022JpBack.{iso_2022_jp_is_read}
use Rattle.enc_index.specs.declared.codec.Codec.TheVariants as codec
use Rattle.enc_round_trip.proofs.Big5Back.{big5_is_read}
use Rattle.enc_round_trip.proofs.EucKrBack.{euc_kr_is_read}

abbrev pub IsReadIfAny : Codec → Option EncoderRule → Type 0
IsReadIfAny c None = Unit {0}
IsReadIfAny c (Some e) =
    (t : List ℕ) → AreScalars t → any_unmappable e t ≡ false
    → IsReadAs (codec_rule c) 0 (bytes_of_text e Ascii t) (map (char_read_back c) t)

pub read_if_any : (c : Codec) → IsReadIfAny c (encoder_rule c)
read_if_any codec.Utf8 = text_is_read _ _ _ utf_8_is_read
read_if_any codec.Utf16Be = tt
read_if_any codec.Utf16Le = tt
read_if_any codec.Replacement = tt
read_if_any (codec.SingleByte index) = text_is_read _ _ _ (single_byte_is_read index)
read_if_any codec.Big5 = text_is_read _ _ _ big5_is_read
read_if_any codec.EucKr = text_is_read _ _ _ euc_kr_is_read
read_if_any codec.ShiftJis = text_is_read _ _ _ shift_jis_is_read
read_if_any codec.EucJp = text_is_read _ _ _ euc_jp_is_read
read_if_any codec.Gbk = text_is_read _ _ _ (gb18030_is_read true)
read_if_any codec.Gb18030 = text_is_read _ _ _ (gb18030_is_read false)
read_if_any codec.XUserDefined = text_is_read _ _ _ x_user_defined_is_read
read_if_any codec.Iso2022Jp = λ t s m. iso_2022_jp_is_read t m
