-- The Latin-1 prefix of a decoder's next input: bytes that are the characters with their numbers.
use Rattle.std.specs.Prelude.{◌≡◌, ℕ, Bool, true, false, Option, Some, None, List, []}
use Rattle.enc_codec.specs.Codecs.{codec_facts}
use Rattle.enc_names.specs.declared.encoding_id.EncodingId.{EncodingId}
use Rattle.enc_names.specs.EncodingTable.{codec_by_id}
use Rattle.enc_decoder.specs.Latin1.{IsLatin1Prefix}
use Rattle.enc_stream.specs.Decoding.{DecoderState, remaining_sequences}

-- whether a byte may be a character by itself
abbrev pub has_byte_characters : EncodingId → Bool
has_byte_characters id = (codec_facts (codec_by_id id)).has_bytes

-- A byte may be the character with its number: no byte order mark may come, nothing is pending, the
-- designated character set is that of the start, and the encoding has such bytes.
pub record DecoderMayBeLatin1 (d : DecoderState) : Type 0 where
  pub going : d.finished ≡ false
  pub no_mark : d.marks ≡ []
  pub none_pending : d.pending ≡ []
  pub at_start : d.set ≡ 0
  pub encoding : has_byte_characters d.encoding.id ≡ true

-- the answer for these bytes: `None` if no byte may be so, and otherwise the length of a prefix
-- that is
abbrev pub AnswersDecoderLatin1 : DecoderState → List ℕ → Option ℕ → Type 0
AnswersDecoderLatin1 d bytes None = ¬ (DecoderMayBeLatin1 d)
AnswersDecoderLatin1 d bytes (Some k) = DecoderMayBeLatin1 d
    × IsLatin1Prefix (remaining_sequences d) bytes k
