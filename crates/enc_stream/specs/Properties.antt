-- Properties of the encodings: the output encoding (Encoding Standard 4.3), ASCII-compatible,
-- single-byte.
use Rattle.std.specs.Prelude.{Bool}
use Rattle.enc_stream.specs.declared.encoding.Encoding.{Encoding}
use Rattle.enc_names.specs.EncodingTable.{output_by_id, ascii_compatible_by_id, single_byte_by_id}

-- the output encoding ("get an output encoding")
abbrev pub output_encoding_of : Encoding → Encoding
output_encoding_of e = record { id = output_by_id e.id }

-- whether bytes below 0x80 and the ASCII characters of the same numbers stand for each other
abbrev pub is_ascii_compatible : Encoding → Bool
is_ascii_compatible e = ascii_compatible_by_id e.id

-- whether each byte is a character by itself
abbrev pub is_single_byte : Encoding → Bool
is_single_byte e = single_byte_by_id e.id
