-- The encodings: their names and labels (Encoding Standard 4.2), codecs and properties.
--
-- Written by scripts/make-sources from data/templates: change the text there, and not this file.
use Rattle.std.specs.Prelude.{ℕ, Bool, true, false, List, [], ◌∷◌, ◌++◌, codes, Option, slice_get}
use Rattle.enc_names.specs.Words.{words}
use Rattle.enc_index.specs.declared.single_byte_index.SingleByteIndex.TheVariants as index
use Rattle.enc_index.specs.declared.codec.Codec.{Codec}
use Rattle.enc_index.specs.declared.codec.Codec.TheVariants as codec
use Rattle.enc_names.specs.declared.encoding_id.EncodingId.{EncodingId}
use Rattle.enc_names.specs.declared.encoding_id.EncodingId.TheVariants as id

-- the encodings, in the standard's order
abbrev pub ids : List EncodingId
ids =
    id.Utf8 ∷
    id.Ibm866 ∷
    id.Iso88592 ∷
    id.Iso88593 ∷
    id.Iso88594 ∷
    id.Iso88595 ∷
    id.Iso88596 ∷
    id.Iso88597 ∷
    id.Iso88598 ∷
    id.Iso88598I ∷
    id.Iso885910 ∷
    id.Iso885913 ∷
    id.Iso885914 ∷
    id.Iso885915 ∷
    id.Iso885916 ∷
    id.Koi8R ∷
    id.Koi8U ∷
    id.Macintosh ∷
    id.Windows874 ∷
    id.Windows1250 ∷
    id.Windows1251 ∷
    id.Windows1252 ∷
    id.Windows1253 ∷
    id.Windows1254 ∷
    id.Windows1255 ∷
    id.Windows1256 ∷
    id.Windows1257 ∷
    id.Windows1258 ∷
    id.XMacCyrillic ∷
    id.Gbk ∷
    id.Gb18030 ∷
    id.Big5 ∷
    id.EucJp ∷
    id.Iso2022Jp ∷
    id.ShiftJis ∷
    id.EucKr ∷
    id.Replacement ∷
    id.Utf16be ∷
    id.Utf16le ∷
    id.XUserDefined ∷
    []

-- the encoding with this number, if there is one: the number of an encoding is its place in the
-- standard's order, from 0
abbrev pub id_of_number : ℕ → Option EncodingId
id_of_number number = slice_get ids number

-- the name
abbrev pub name_by_id : EncodingId → List ℕ
name_by_id id.Utf8 = codes "UTF-8"
name_by_id id.Ibm866 = codes "IBM866"
name_by_id id.Iso88592 = codes "ISO-8859-2"
name_by_id id.Iso88593 = codes "ISO-8859-3"
name_by_id id.Iso88594 = codes "ISO-8859-4"
name_by_id id.Iso88595 = codes "ISO-8859-5"
name_by_id id.Iso88596 = codes "ISO-8859-6"
name_by_id id.Iso88597 = codes "ISO-8859-7"
name_by_id id.Iso88598 = codes "ISO-8859-8"
name_by_id id.Iso88598I = codes "ISO-8859-8-I"
name_by_id id.Iso885910 = codes "ISO-8859-10"
name_by_id id.Iso885913 = codes "ISO-8859-13"
name_by_id id.Iso885914 = codes "ISO-8859-14"
name_by_id id.Iso885915 = codes "ISO-8859-15"
name_by_id id.Iso885916 = codes "ISO-8859-16"
name_by_id id.Koi8R = codes "KOI8-R"
name_by_id id.Koi8U = codes "KOI8-U"
name_by_id id.Macintosh = codes "macintosh"
name_by_id id.Windows874 = codes "windows-874"
name_by_id id.Windows1250 = codes "windows-1250"
name_by_id id.Windows1251 = codes "windows-1251"
name_by_id id.Windows1252 = codes "windows-1252"
name_by_id id.Windows1253 = codes "windows-1253"
name_by_id id.Windows1254 = codes "windows-1254"
name_by_id id.Windows1255 = codes "windows-1255"
name_by_id id.Windows1256 = codes "windows-1256"
name_by_id id.Windows1257 = codes "windows-1257"
name_by_id id.Windows1258 = codes "windows-1258"
name_by_id id.XMacCyrillic = codes "x-mac-cyrillic"
name_by_id id.Gbk = codes "GBK"
name_by_id id.Gb18030 = codes "gb18030"
name_by_id id.Big5 = codes "Big5"
name_by_id id.EucJp = codes "EUC-JP"
name_by_id id.Iso2022Jp = codes "ISO-2022-JP"
name_by_id id.ShiftJis = codes "Shift_JIS"
name_by_id id.EucKr = codes "EUC-KR"
name_by_id id.Replacement = codes "replacement"
name_by_id id.Utf16be = codes "UTF-16BE"
name_by_id id.Utf16le = codes "UTF-16LE"
name_by_id id.XUserDefined = codes "x-user-defined"

-- the labels
abbrev pub labels_by_id : EncodingId → List (List ℕ)
labels_by_id id.Utf8 = words "unicode-1-1-utf-8 unicode11utf8 unicode20utf8 utf-8 utf8 x-unicode20utf8"
labels_by_id id.Ibm866 = words "866 cp866 csibm866 ibm866"
labels_by_id id.Iso88592 =
    words "csisolatin2 iso-8859-2 iso-ir-101 iso8859-2 iso88592 iso_8859-2 iso_8859-2:1987 l2"
    ++ words "latin2"
labels_by_id id.Iso88593 =
    words "csisolatin3 iso-8859-3 iso-ir-109 iso8859-3 iso88593 iso_8859-3 iso_8859-3:1988 l3"
    ++ words "latin3"
labels_by_id id.Iso88594 =
    words "csisolatin4 iso-8859-4 iso-ir-110 iso8859-4 iso88594 iso_8859-4 iso_8859-4:1988 l4"
    ++ words "latin4"
labels_by_id id.Iso88595 =
    words "csisolatincyrillic cyrillic iso-8859-5 iso-ir-144 iso8859-5 iso88595 iso_8859-5"
    ++ words "iso_8859-5:1988"
labels_by_id id.Iso88596 =
    words "arabic asmo-708 csiso88596e csiso88596i csisolatinarabic ecma-114 iso-8859-6"
    ++ words "iso-8859-6-e iso-8859-6-i iso-ir-127 iso8859-6 iso88596 iso_8859-6 iso_8859-6:1987"
labels_by_id id.Iso88597 =
    words "csisolatingreek ecma-118 elot_928 greek greek8 iso-8859-7 iso-ir-126 iso8859-7 iso88597"
    ++ words "iso_8859-7 iso_8859-7:1987 sun_eu_greek"
labels_by_id id.Iso88598 =
    words "csiso88598e csisolatinhebrew hebrew iso-8859-8 iso-8859-8-e iso-ir-138 iso8859-8"
    ++ words "iso88598 iso_8859-8 iso_8859-8:1988 visual"
labels_by_id id.Iso88598I = words "csiso88598i iso-8859-8-i logical"
labels_by_id id.Iso885910 = words "csisolatin6 iso-8859-10 iso-ir-157 iso8859-10 iso885910 l6 latin6"
labels_by_id id.Iso885913 = words "iso-8859-13 iso8859-13 iso885913"
labels_by_id id.Iso885914 = words "iso-8859-14 iso8859-14 iso885914"
labels_by_id id.Iso885915 = words "csisolatin9 iso-8859-15 iso8859-15 iso885915 iso_8859-15 l9"
labels_by_id id.Iso885916 = words "iso-8859-16"
labels_by_id id.Koi8R = words "cskoi8r koi koi8 koi8-r koi8_r"
labels_by_id id.Koi8U = words "koi8-ru koi8-u"
labels_by_id id.Macintosh = words "csmacintosh mac macintosh x-mac-roman"
labels_by_id id.Windows874 = words "dos-874 iso-8859-11 iso8859-11 iso885911 tis-620 windows-874"
labels_by_id id.Windows1250 = words "cp1250 windows-1250 x-cp1250"
labels_by_id id.Windows1251 = words "cp1251 windows-1251 x-cp1251"
labels_by_id id.Windows1252 =
    words "ansi_x3.4-1968 ascii cp1252 cp819 csisolatin1 ibm819 iso-8859-1 iso-ir-100 iso8859-1"
    ++ words "iso88591 iso_8859-1 iso_8859-1:1987 l1 latin1 us-ascii windows-1252 x-cp1252"
labels_by_id id.Windows1253 = words "cp1253 windows-1253 x-cp1253"
labels_by_id id.Windows1254 =
    words "cp1254 csisolatin5 iso-8859-9 iso-ir-148 iso8859-9 iso88599 iso_8859-9 iso_8859-9:1989"
    ++ words "l5 latin5 windows-1254 x-cp1254"
labels_by_id id.Windows1255 = words "cp1255 windows-1255 x-cp1255"
labels_by_id id.Windows1256 = words "cp1256 windows-1256 x-cp1256"
labels_by_id id.Windows1257 = words "cp1257 windows-1257 x-cp1257"
labels_by_id id.Windows1258 = words "cp1258 windows-1258 x-cp1258"
labels_by_id id.XMacCyrillic = words "x-mac-cyrillic x-mac-ukrainian"
labels_by_id id.Gbk = words "chinese csgb2312 csiso58gb231280 gb2312 gb_2312 gb_2312-80 gbk iso-ir-58 x-gbk"
labels_by_id id.Gb18030 = words "gb18030"
labels_by_id id.Big5 = words "big5 big5-hkscs cn-big5 csbig5 x-x-big5"
labels_by_id id.EucJp = words "cseucpkdfmtjapanese euc-jp x-euc-jp"
labels_by_id id.Iso2022Jp = words "csiso2022jp iso-2022-jp"
labels_by_id id.ShiftJis = words "csshiftjis ms932 ms_kanji shift-jis shift_jis sjis windows-31j x-sjis"
labels_by_id id.EucKr =
    words "cseuckr csksc56011987 euc-kr iso-ir-149 korean ks_c_5601-1987 ks_c_5601-1989 ksc5601"
    ++ words "ksc_5601 windows-949"
labels_by_id id.Replacement = words "csiso2022kr hz-gb-2312 iso-2022-cn iso-2022-cn-ext iso-2022-kr replacement"
labels_by_id id.Utf16be = words "unicodefffe utf-16be"
labels_by_id id.Utf16le = words "csunicode iso-10646-ucs-2 ucs-2 unicode unicodefeff utf-16 utf-16le"
labels_by_id id.XUserDefined = words "x-user-defined"

-- the codec
abbrev pub codec_by_id : EncodingId → Codec
codec_by_id id.Utf8 = codec.Utf8
codec_by_id id.Ibm866 = codec.SingleByte index.Ibm866
codec_by_id id.Iso88592 = codec.SingleByte index.Iso88592
codec_by_id id.Iso88593 = codec.SingleByte index.Iso88593
codec_by_id id.Iso88594 = codec.SingleByte index.Iso88594
codec_by_id id.Iso88595 = codec.SingleByte index.Iso88595
codec_by_id id.Iso88596 = codec.SingleByte index.Iso88596
codec_by_id id.Iso88597 = codec.SingleByte index.Iso88597
codec_by_id id.Iso88598 = codec.SingleByte index.Iso88598
codec_by_id id.Iso88598I = codec.SingleByte index.Iso88598
codec_by_id id.Iso885910 = codec.SingleByte index.Iso885910
codec_by_id id.Iso885913 = codec.SingleByte index.Iso885913
codec_by_id id.Iso885914 = codec.SingleByte index.Iso885914
codec_by_id id.Iso885915 = codec.SingleByte index.Iso885915
codec_by_id id.Iso885916 = codec.SingleByte index.Iso885916
codec_by_id id.Koi8R = codec.SingleByte index.Koi8R
codec_by_id id.Koi8U = codec.SingleByte index.Koi8U
codec_by_id id.Macintosh = codec.SingleByte index.Macintosh
codec_by_id id.Windows874 = codec.SingleByte index.Windows874
codec_by_id id.Windows1250 = codec.SingleByte index.Windows1250
codec_by_id id.Windows1251 = codec.SingleByte index.Windows1251
codec_by_id id.Windows1252 = codec.SingleByte index.Windows1252
codec_by_id id.Windows1253 = codec.SingleByte index.Windows1253
codec_by_id id.Windows1254 = codec.SingleByte index.Windows1254
codec_by_id id.Windows1255 = codec.SingleByte index.Windows1255
codec_by_id id.Windows1256 = codec.SingleByte index.Windows1256
codec_by_id id.Windows1257 = codec.SingleByte index.Windows1257
codec_by_id id.Windows1258 = codec.SingleByte index.Windows1258
codec_by_id id.XMacCyrillic = codec.SingleByte index.XMacCyrillic
codec_by_id id.Gbk = codec.Gbk
codec_by_id id.Gb18030 = codec.Gb18030
codec_by_id id.Big5 = codec.Big5
codec_by_id id.EucJp = codec.EucJp
codec_by_id id.Iso2022Jp = codec.Iso2022Jp
codec_by_id id.ShiftJis = codec.ShiftJis
codec_by_id id.EucKr = codec.EucKr
codec_by_id id.Replacement = codec.Replacement
codec_by_id id.Utf16be = codec.Utf16Be
codec_by_id id.Utf16le = codec.Utf16Le
codec_by_id id.XUserDefined = codec.XUserDefined

-- the output encoding (Encoding Standard 4.3, "get an output encoding")
abbrev pub output_by_id : EncodingId → EncodingId
output_by_id id.Utf8 = id.Utf8
output_by_id id.Ibm866 = id.Ibm866
output_by_id id.Iso88592 = id.Iso88592
output_by_id id.Iso88593 = id.Iso88593
output_by_id id.Iso88594 = id.Iso88594
output_by_id id.Iso88595 = id.Iso88595
output_by_id id.Iso88596 = id.Iso88596
output_by_id id.Iso88597 = id.Iso88597
output_by_id id.Iso88598 = id.Iso88598
output_by_id id.Iso88598I = id.Iso88598I
output_by_id id.Iso885910 = id.Iso885910
output_by_id id.Iso885913 = id.Iso885913
output_by_id id.Iso885914 = id.Iso885914
output_by_id id.Iso885915 = id.Iso885915
output_by_id id.Iso885916 = id.Iso885916
output_by_id id.Koi8R = id.Koi8R
output_by_id id.Koi8U = id.Koi8U
output_by_id id.Macintosh = id.Macintosh
output_by_id id.Windows874 = id.Windows874
output_by_id id.Windows1250 = id.Windows1250
output_by_id id.Windows1251 = id.Windows1251
output_by_id id.Windows1252 = id.Windows1252
output_by_id id.Windows1253 = id.Windows1253
output_by_id id.Windows1254 = id.Windows1254
output_by_id id.Windows1255 = id.Windows1255
output_by_id id.Windows1256 = id.Windows1256
output_by_id id.Windows1257 = id.Windows1257
output_by_id id.Windows1258 = id.Windows1258
output_by_id id.XMacCyrillic = id.XMacCyrillic
output_by_id id.Gbk = id.Gbk
output_by_id id.Gb18030 = id.Gb18030
output_by_id id.Big5 = id.Big5
output_by_id id.EucJp = id.EucJp
output_by_id id.Iso2022Jp = id.Iso2022Jp
output_by_id id.ShiftJis = id.ShiftJis
output_by_id id.EucKr = id.EucKr
output_by_id id.Replacement = id.Utf8
output_by_id id.Utf16be = id.Utf8
output_by_id id.Utf16le = id.Utf8
output_by_id id.XUserDefined = id.XUserDefined

-- whether bytes below 0x80 and the ASCII characters of the same numbers stand for each other
abbrev pub ascii_compatible_by_id : EncodingId → Bool
ascii_compatible_by_id id.Utf8 = true
ascii_compatible_by_id id.Ibm866 = true
ascii_compatible_by_id id.Iso88592 = true
ascii_compatible_by_id id.Iso88593 = true
ascii_compatible_by_id id.Iso88594 = true
ascii_compatible_by_id id.Iso88595 = true
ascii_compatible_by_id id.Iso88596 = true
ascii_compatible_by_id id.Iso88597 = true
ascii_compatible_by_id id.Iso88598 = true
ascii_compatible_by_id id.Iso88598I = true
ascii_compatible_by_id id.Iso885910 = true
ascii_compatible_by_id id.Iso885913 = true
ascii_compatible_by_id id.Iso885914 = true
ascii_compatible_by_id id.Iso885915 = true
ascii_compatible_by_id id.Iso885916 = true
ascii_compatible_by_id id.Koi8R = true
ascii_compatible_by_id id.Koi8U = true
ascii_compatible_by_id id.Macintosh = true
ascii_compatible_by_id id.Windows874 = true
ascii_compatible_by_id id.Windows1250 = true
ascii_compatible_by_id id.Windows1251 = true
ascii_compatible_by_id id.Windows1252 = true
ascii_compatible_by_id id.Windows1253 = true
ascii_compatible_by_id id.Windows1254 = true
ascii_compatible_by_id id.Windows1255 = true
ascii_compatible_by_id id.Windows1256 = true
ascii_compatible_by_id id.Windows1257 = true
ascii_compatible_by_id id.Windows1258 = true
ascii_compatible_by_id id.XMacCyrillic = true
ascii_compatible_by_id id.Gbk = true
ascii_compatible_by_id id.Gb18030 = true
ascii_compatible_by_id id.Big5 = true
ascii_compatible_by_id id.EucJp = true
ascii_compatible_by_id id.Iso2022Jp = false
ascii_compatible_by_id id.ShiftJis = true
ascii_compatible_by_id id.EucKr = true
ascii_compatible_by_id id.Replacement = false
ascii_compatible_by_id id.Utf16be = false
ascii_compatible_by_id id.Utf16le = false
ascii_compatible_by_id id.XUserDefined = true

-- whether each byte is a character by itself
abbrev pub single_byte_by_id : EncodingId → Bool
single_byte_by_id id.Utf8 = false
single_byte_by_id id.Ibm866 = true
single_byte_by_id id.Iso88592 = true
single_byte_by_id id.Iso88593 = true
single_byte_by_id id.Iso88594 = true
single_byte_by_id id.Iso88595 = true
single_byte_by_id id.Iso88596 = true
single_byte_by_id id.Iso88597 = true
single_byte_by_id id.Iso88598 = true
single_byte_by_id id.Iso88598I = true
single_byte_by_id id.Iso885910 = true
single_byte_by_id id.Iso885913 = true
single_byte_by_id id.Iso885914 = true
single_byte_by_id id.Iso885915 = true
single_byte_by_id id.Iso885916 = true
single_byte_by_id id.Koi8R = true
single_byte_by_id id.Koi8U = true
single_byte_by_id id.Macintosh = true
single_byte_by_id id.Windows874 = true
single_byte_by_id id.Windows1250 = true
single_byte_by_id id.Windows1251 = true
single_byte_by_id id.Windows1252 = true
single_byte_by_id id.Windows1253 = true
single_byte_by_id id.Windows1254 = true
single_byte_by_id id.Windows1255 = true
single_byte_by_id id.Windows1256 = true
single_byte_by_id id.Windows1257 = true
single_byte_by_id id.Windows1258 = true
single_byte_by_id id.XMacCyrillic = true
single_byte_by_id id.Gbk = false
single_byte_by_id id.Gb18030 = false
single_byte_by_id id.Big5 = false
single_byte_by_id id.EucJp = false
single_byte_by_id id.Iso2022Jp = false
single_byte_by_id id.ShiftJis = false
single_byte_by_id id.EucKr = false
single_byte_by_id id.Replacement = false
single_byte_by_id id.Utf16be = false
single_byte_by_id id.Utf16le = false
single_byte_by_id id.XUserDefined = true
