-- The steps of a read: pulling a chunk from the source, and a turn of the decoder.
use Rattle.std.specs.Prelude.{◌≡◌, ℕ, ◌<◌, ◌≤◌, ◌⊎◌, Bool, true, false, List, [], ◌++◌, length, Option}
use Rattle.enc_utf8.specs.Validity.{IsWellFormedUtf8, AreAscii}
use Rattle.enc_decoder.specs.Remainder.{IsUndetermined}
use Rattle.enc_utf8.specs.Utf8Sequences.{is_incomplete_sequence}
use Rattle.enc_codec.specs.Properties.{IsAsciiCompatible}
use Rattle.enc_stream.specs.declared.constants.TheConstants.{UTF_8}
use Rattle.enc_stream.specs.Encodings.{rule_of}
use Rattle.enc_stream.specs.Decoding.{DecoderState, has_finished, remaining_sequences}
use Rattle.enc_stream.specs.Latin1.{DecoderMayBeLatin1}
use Rattle.enc_reader.specs.Reading.{ReaderState, ReadsOwed, NoneDetermined}

-- The reader has nothing to decode, its pending bytes determine nothing, and its source is not at
-- its end.
pub record IsWaiting (s : ReaderState) : Type 0 where
  pub unread : s.unread ≡ []
  pub undetermined : IsUndetermined (remaining_sequences s.decoder)
  pub not_ended : s.ended ≡ false
  pub going : has_finished s.decoder ≡ false

-- A chunk is pulled: some bytes, or the end of the source. None of them is decoded.
pub record PullsChunk (remaining_before remaining_after : Option (List ℕ))
    (old new : ReaderState) : Type 0 where
  pub bytes : List ℕ
  pub reads : ReadsOwed remaining_before remaining_after old new bytes [] false
  pub some : new.ended ≡ false → 0 < length bytes
  pub decoder : new.decoder ≡ old.decoder
  pub unread : new.unread ≡ old.unread ++ bytes

-- A turn hands out text, is at the end, or waits for more bytes. The source gives none in it.
pub record IsTurn (old new : ReaderState) (wrote : List ℕ) (replaced waits : Bool) : Type 0 where
  pub reads : (remaining : Option (List ℕ))
      → ReadsOwed remaining remaining old new [] wrote replaced
  pub waiting : waits ≡ true → IsWaiting new
  pub text_or_end : waits ≡ false → wrote ≡ [] → has_finished new.decoder ≡ true

-- Chunks are pulled only if nothing is determined. None of their bytes is decoded, and nothing is
-- handed out.
pub record FillsBuffer (remaining_before remaining_after : Option (List ℕ))
    (old new : ReaderState) : Type 0 where
  pub bytes : List ℕ
  pub reads : ReadsOwed remaining_before remaining_after old new bytes [] false
  pub needed : ((bytes ≡ []) × (new ≡ old)) ⊎ NoneDetermined old
  pub decoder : new.decoder ≡ old.decoder
  pub unread : new.unread ≡ old.unread ++ bytes

-- A byte is unread, in a buffer of `room` bytes. If the decoder is between two sequences of UTF-8
-- and the buffer has room for the longest of them, the unread bytes are no incomplete sequence.
pub record HasBytesAtHand (room : ℕ) (s : ReaderState) : Type 0 where
  pub some : 0 < length s.unread
  pub whole : 4 ≤ room → s.decoder.encoding ≡ UTF_8 → DecoderMayBeLatin1 s.decoder
      → is_incomplete_sequence s.unread ≡ false

-- These bytes are their own text to a decoder between two sequences: in UTF-8 if they are
-- well-formed, and in an ASCII-compatible encoding if they are ASCII.
abbrev pub AreOwnBytes : DecoderState → List ℕ → Type 0
AreOwnBytes d bytes =
    ((d.encoding ≡ UTF_8) × IsWellFormedUtf8 bytes)
    ⊎ (IsAsciiCompatible (rule_of d.encoding) × AreAscii bytes)

-- Bytes that come next, to a decoder between two sequences, and are their own text.
pub record IsOwnText (d : DecoderState) (bytes : List ℕ) : Type 0 where
  pub between : DecoderMayBeLatin1 d
  pub own : AreOwnBytes d bytes
