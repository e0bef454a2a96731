-- Encodings that a declaration of ASCII bytes can't mean, and those that are meant instead (HTML
-- Standard 13.2.3.2).
use Rattle.enc_names.specs.declared.encoding_id.EncodingId.{EncodingId}
use Rattle.enc_names.specs.declared.encoding_id.EncodingId.TheVariants.{Utf8, Utf16be, Utf16le}
use Rattle.enc_names.specs.declared.encoding_id.EncodingId.TheVariants.{Windows1252, XUserDefined}
use Rattle.enc_stream.specs.declared.encoding.Encoding.{Encoding}

abbrev pub id_without_utf_16 : EncodingId → EncodingId
id_without_utf_16 Utf16be = Utf8
id_without_utf_16 Utf16le = Utf8
id_without_utf_16 id = id

-- UTF-8 in place of UTF-16BE and UTF-16LE ("get an XML encoding", step 17; the prescan's step 14 at
-- `<meta`)
abbrev pub without_utf_16 : Encoding → Encoding
without_utf_16 e = record { id = id_without_utf_16 e.id }

abbrev pub id_without_user_defined : EncodingId → EncodingId
id_without_user_defined XUserDefined = Windows1252
id_without_user_defined id = id

-- also windows-1252 in place of x-user-defined (the prescan's step 15 at `<meta`)
abbrev pub usable : Encoding → Encoding
usable e = record { id = id_without_user_defined (without_utf_16 e).id }
