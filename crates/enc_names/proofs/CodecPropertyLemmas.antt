-- The table has the properties of the codecs: by computation, encoding by encoding.
use Rattle.std.proofs.Common.{◌≡◌, refl}
use Rattle.enc_names.specs.declared.encoding_id.EncodingId.{EncodingId}
use Rattle.enc_names.specs.declared.encoding_id.EncodingId.TheVariants.{Utf8}
use Rattle.enc_names.specs.CodecProperties.{ascii_compatible_by_codec, single_byte_by_codec}
use Rattle.enc_names.specs.EncodingTable.{codec_by_id, ascii_compatible_by_id, single_byte_by_id}

pub listed_ascii : (id : EncodingId)
    → ascii_compatible_by_codec (codec_by_id id) ≡ ascii_compatible_by_id id
listed_ascii Utf8 = refl
listed_ascii _ = refl

pub listed_single_byte : (id : EncodingId)
    → single_byte_by_codec (codec_by_id id) ≡ single_byte_by_id id
listed_single_byte Utf8 = refl
listed_single_byte _ = refl
