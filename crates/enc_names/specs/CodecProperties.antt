-- Properties of codecs.
use Rattle.std.specs.Prelude.{Bool, true, false}
use Rattle.enc_index.specs.declared.codec.Codec.{Codec}
use Rattle.enc_index.specs.declared.codec.Codec.TheVariants.{Replacement, Utf16Be, Utf16Le, Iso2022Jp, SingleByte}
use Rattle.enc_index.specs.declared.codec.Codec.TheVariants.{XUserDefined}

-- whether bytes below 0x80 and the ASCII characters of the same numbers stand for each other
abbrev pub ascii_compatible_by_codec : Codec → Bool
ascii_compatible_by_codec Replacement = false
ascii_compatible_by_codec Utf16Be = false
ascii_compatible_by_codec Utf16Le = false
ascii_compatible_by_codec Iso2022Jp = false
ascii_compatible_by_codec _ = true

-- whether each byte is a character by itself
abbrev pub single_byte_by_codec : Codec → Bool
single_byte_by_codec (SingleByte index) = true
single_byte_by_codec XUserDefined = true
single_byte_by_codec _ = false
