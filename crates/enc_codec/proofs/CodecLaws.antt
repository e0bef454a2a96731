-- Every codec keeps its laws: the one proof that goes through all decoders.
-- Written by scripts/make-sources from data/templates: change the text there, and not this file.
use Rattle.std.proofs.Common.{ℕ, Bool, true, false, Option, List, [], refl, arith}
use Rattle.enc_index.specs.Runs.{single_byte_runs}
use Rattle.enc_index.specs.declared.codec.Codec.{Codec}
use Rattle.enc_index.specs.declared.codec.Codec.TheVariants as codec
use Rattle.enc_decoder.specs.declared.byte_codec.Text.TheVariants.{One}
use Rattle.enc_decoder.specs.declared.pending.Pending.TheVariants.{Nothing}
use Rattle.enc_decoder.specs.declared.text_lengths.TextLengths.TheVariants as lengths
use Rattle.enc_decoder.specs.Need.{AreEnoughForCodec}
use Rattle.enc_decoder_utf.specs.Utf16.{utf_16_rule}
use Rattle.enc_decoder_utf.proofs.Utf8Rule.{utf_8_has_texts, utf_8_is_lawful, utf_8_has_bytes, utf_8_is_divided}
use Rattle.enc_decoder_utf.proofs.Utf8Enough.{utf_8_enough}
use Rattle.enc_decoder_utf.proofs.Utf16Rule.{utf_16_has_texts, utf_16_is_lawful, utf_16_has_no_bytes}
use Rattle.enc_decoder_utf.proofs.Utf16Enough.{utf_16_enough}
use Rattle.enc_decoder_single_byte.specs.OneByte.{one_byte_prefix, one_byte_rule, AreOneByteChars}
use Rattle.enc_decoder_single_byte.proofs.OneByteLemmas.{one_byte_prefixes, one_byte_settled, one_byte_ascii}
use Rattle.enc_decoder_single_byte.proofs.OneByteLemmas.{one_byte_has_bytes, single_byte_laws, x_user_defined_laws}
use Rattle.enc_decoder_single_byte.proofs.EnoughLemmas.{one_byte_enough, replacement_enough}
use Rattle.enc_decoder_single_byte.proofs.ReplacementLemmas.{replacement_is_lawful, replacement_has_no_bytes}
use Rattle.enc_decoder.specs.declared.prefix.Prefix.{Prefix}
use Rattle.enc_decoder.specs.Prefixes.{prefix_rule}
use Rattle.enc_decoder.proofs.PrefixRule.{prefixes_are_lawful, prefixes_have_texts, prefixes_have_bytes}
use Rattle.enc_decoder.proofs.PrefixDivision.{prefixes_are_divided}
use Rattle.enc_decoder_multi_byte.specs.MultiByte.{AreMultiBytePrefixes}
use Rattle.enc_decoder_multi_byte.specs.Big5.{big5_prefix}
use Rattle.enc_decoder_multi_byte.specs.EucKr.{euc_kr_prefix}
use Rattle.enc_decoder_multi_byte.specs.ShiftJis.{shift_jis_prefix}
use Rattle.enc_decoder_multi_byte.specs.EucJp.{euc_jp_prefix}
use Rattle.enc_decoder_multi_byte.specs.Gb18030.{gb18030_prefix}
use Rattle.enc_decoder_multi_byte.proofs.Laws.Big5 as big5
use Rattle.enc_decoder_multi_byte.proofs.Laws.EucKr as euc_kr
use Rattle.enc_decoder_multi_byte.proofs.Laws.ShiftJis as shift_jis
use Rattle.enc_decoder_multi_byte.proofs.Laws.EucJp as euc_jp
use Rattle.enc_decoder_multi_byte.proofs.Laws.Gb18030 as gb18030
use Rattle.enc_decoder_multi_byte.proofs.MultiByteEnough.{multi_bytes_enough}
use Rattle.enc_decoder_iso_2022_jp.proofs.Iso2022JpEnough.{iso_2022_jp_enough}
use Rattle.enc_decoder_iso_2022_jp.proofs.Iso2022JpRule.{iso_2022_jp_is_lawful, iso_2022_jp_has_bytes}
use Rattle.enc_codec.specs.Codecs.{codec_rule, codec_facts, initial_state, utf_16_facts, one_byte_facts}
use Rattle.enc_codec.specs.Codecs.{multi_byte_facts}
use Rattle.enc_codec.specs.CodecLaws.{KeepsCodecLaws}
use Rattle.enc_codec.specs.Properties.{DeterminesBbByItself}
use Rattle.enc_codec.proofs.PropertyLemmas.{utf_8_is_ascii_compatible, utf_8_is_not_single_byte}
use Rattle.enc_codec.proofs.PropertyLemmas.{utf_16_is_not_ascii_compatible, utf_16_is_not_single_byte}
use Rattle.enc_codec.proofs.PropertyLemmas.{prefixes_are_ascii_compatible, one_byte_is_single_byte}
use Rattle.enc_codec.proofs.PropertyLemmas.{multi_byte_is_not_single_byte}
use Rattle.enc_codec.proofs.PropertyLemmas.{iso_2022_jp_lacks_texts, iso_2022_jp_is_not_ascii_compatible}
use Rattle.enc_codec.proofs.PropertyLemmas.{iso_2022_jp_is_not_single_byte, replacement_lacks_texts}
use Rattle.enc_codec.proofs.PropertyLemmas.{replacement_is_not_ascii_compatible, replacement_is_not_single_byte}
use Rattle.enc_codec.proofs.DivisionLemmas.{utf_16_is_not_divided, iso_2022_jp_is_not_divided}
use Rattle.enc_codec.proofs.DivisionLemmas.{replacement_is_not_divided}
use Rattle.enc_codec.proofs.MarkByteLemmas.{utf_8_shows_bb, utf_16_shows_bb, one_byte_shows_bb, multi_byte_shows_bb}
use Rattle.enc_codec.proofs.MarkByteLemmas.{iso_2022_jp_shows_bb, replacement_shows_bb}

-- the laws of each family

utf_16_keeps_laws : (big : Bool)
    → AreEnoughForCodec lengths.Utf16 (initial_state (utf_16_rule big))
    → KeepsCodecLaws (utf_16_rule big) utf_16_facts
utf_16_keeps_laws big enough = record {
  lawful = utf_16_is_lawful big;
  enough = enough;
  texts = utf_16_has_texts big;
  bytes = utf_16_has_no_bytes big;
  ascii = utf_16_is_not_ascii_compatible big;
  single = utf_16_is_not_single_byte big;
  divided = utf_16_is_not_divided big;
  bb = utf_16_shows_bb big;
}

one_byte_keeps_laws : (character : ℕ → Option ℕ) → AreOneByteChars character
    → KeepsCodecLaws (one_byte_rule character) one_byte_facts
one_byte_keeps_laws character laws =
    let prefix = one_byte_prefix character in
    let prefixes = one_byte_prefixes character in
    let has_ascii = one_byte_ascii character laws in
    record {
      lawful = prefixes_are_lawful prefix prefixes;
      enough = one_byte_enough character laws;
      texts = prefixes_have_texts prefix prefixes;
      bytes = one_byte_has_bytes character laws;
      ascii = prefixes_are_ascii_compatible prefix has_ascii;
      single = one_byte_is_single_byte character;
      divided = prefixes_are_divided prefix prefixes has_ascii (one_byte_settled character);
      bb = one_byte_shows_bb character;
    }

multi_byte_keeps_laws : (prefix : List ℕ → Prefix) → AreMultiBytePrefixes prefix
    → DeterminesBbByItself (prefix_rule prefix)
    → KeepsCodecLaws (prefix_rule prefix) multi_byte_facts
multi_byte_keeps_laws prefix laws bb = record {
  lawful = prefixes_are_lawful prefix laws.prefixes;
  enough = multi_bytes_enough prefix laws [];
  texts = prefixes_have_texts prefix laws.prefixes;
  bytes = prefixes_have_bytes prefix 0x61 (One 0x61) (laws.ascii 0x61 (omega arith));
  ascii = prefixes_are_ascii_compatible prefix laws.ascii;
  single = multi_byte_is_not_single_byte prefix laws;
  divided = prefixes_are_divided prefix laws.prefixes laws.ascii laws.settled;
  bb = bb;
}

pub codec_laws : (c : Codec) → KeepsCodecLaws (codec_rule c) (codec_facts c)
codec_laws codec.Utf8 = record {
  lawful = utf_8_is_lawful;
  enough = utf_8_enough _ refl;
  texts = utf_8_has_texts;
  bytes = utf_8_has_bytes;
  ascii = utf_8_is_ascii_compatible;
  single = utf_8_is_not_single_byte;
  divided = utf_8_is_divided;
  bb = utf_8_shows_bb;
}
codec_laws codec.Utf16Be =
    utf_16_keeps_laws true (utf_16_enough (record { big_endian = true; pending = Nothing }) tt)
codec_laws codec.Utf16Le =
    utf_16_keeps_laws false (utf_16_enough (record { big_endian = false; pending = Nothing }) tt)
codec_laws (codec.SingleByte index) =
    one_byte_keeps_laws _ (single_byte_laws (single_byte_runs index))
codec_laws codec.Big5 =
    multi_byte_keeps_laws big5_prefix big5.laws
    (multi_byte_shows_bb big5_prefix _ refl refl)
codec_laws codec.EucKr =
    multi_byte_keeps_laws euc_kr_prefix euc_kr.laws
    (multi_byte_shows_bb euc_kr_prefix _ refl refl)
codec_laws codec.ShiftJis =
    multi_byte_keeps_laws shift_jis_prefix shift_jis.laws
    (multi_byte_shows_bb shift_jis_prefix _ refl refl)
codec_laws codec.EucJp =
    multi_byte_keeps_laws euc_jp_prefix euc_jp.laws
    (multi_byte_shows_bb euc_jp_prefix _ refl refl)
codec_laws codec.Gbk =
    multi_byte_keeps_laws gb18030_prefix gb18030.laws
    (multi_byte_shows_bb gb18030_prefix _ refl refl)
codec_laws codec.Gb18030 =
    multi_byte_keeps_laws gb18030_prefix gb18030.laws
    (multi_byte_shows_bb gb18030_prefix _ refl refl)
codec_laws codec.XUserDefined =
    one_byte_keeps_laws _ x_user_defined_laws
codec_laws codec.Replacement = record {
  lawful = replacement_is_lawful;
  enough = replacement_enough false;
  texts = replacement_lacks_texts;
  bytes = replacement_has_no_bytes;
  ascii = replacement_is_not_ascii_compatible;
  single = replacement_is_not_single_byte;
  divided = replacement_is_not_divided;
  bb = replacement_shows_bb;
}
codec_laws codec.Iso2022Jp = record {
  lawful = iso_2022_jp_is_lawful;
  enough = iso_2022_jp_enough _ refl;
  texts = iso_2022_jp_lacks_texts;
  bytes = iso_2022_jp_has_bytes;
  ascii = iso_2022_jp_is_not_ascii_compatible;
  single = iso_2022_jp_is_not_single_byte;
  divided = iso_2022_jp_is_not_divided;
  bb = iso_2022_jp_shows_bb;
}
