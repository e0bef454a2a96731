-- Writing text that comes as bytes of UTF-8, cut anywhere (Encoding Standard 6, "UTF-8 decode
-- without BOM", and "encode").
use Rattle.std.specs.Prelude.{◌≡◌, ℕ, Bool, true, false, List, [], ◌++◌, Option}
use Rattle.enc_decoder.specs.Sequence.{sequence_text}
use Rattle.enc_stream.specs.declared.bom.BomHandling.TheVariants.{Off}
use Rattle.enc_stream.specs.declared.constants.TheConstants.{UTF_8}
use Rattle.enc_stream.specs.Decoding.{DecoderState, fresh_decoder, remaining_sequences}
use Rattle.enc_writer.specs.Sink.{AppendsContents, BeginsWithBytes}
use Rattle.enc_writer.specs.Writing.{WriterState, HasWrittenText, owed_bytes}

-- A writer of bytes of UTF-8 between two calls: its decoder, and the writer of its text.
pub record Utf8State : Type 0 where
  pub decoder : DecoderState
  pub writer : WriterState

abbrev pub utf8_state : DecoderState → WriterState → Utf8State
utf8_state decoder writer = record { decoder = decoder; writer = writer }

-- the decoder of a writer that has written nothing
abbrev pub fresh_utf8_decoder : DecoderState
fresh_utf8_decoder = fresh_decoder Off UTF_8

-- the text still to be written if exactly these bytes follow
abbrev pub text_to_come : DecoderState → List ℕ → List ℕ
text_to_come decoder bytes = sequence_text (remaining_sequences decoder bytes)

-- the bytes owed to the sink if exactly these bytes of UTF-8 follow
abbrev pub owed_for_utf8 : Utf8State → List ℕ → List ℕ
owed_for_utf8 s bytes = owed_bytes s.writer (text_to_come s.decoder bytes)

-- A writer has taken `bytes` since it was at `start`. If `last`, nothing follows them.
pub record HasWrittenUtf8 (taken_before taken_after : Option (List ℕ)) (start now : Utf8State)
    (bytes : List ℕ) (last : Bool) : Type 0 where
  -- the text that the bytes determine, which is written
  pub text : List ℕ
  -- Whatever bytes follow, the text to come at the start is this, and that to come now.
  pub decoded : (z : List ℕ) → (last ≡ true → z ≡ [])
      → text_to_come start.decoder (bytes ++ z) ≡ text ++ text_to_come now.decoder z
  pub written : HasWrittenText taken_before taken_after start.writer now.writer text

-- A call takes `bytes`, after whatever was taken before it.
pub record WritesUtf8 (taken_before taken_after : Option (List ℕ)) (old new : Utf8State)
    (bytes : List ℕ) : Type 0 where
  pub alone : HasWrittenUtf8 taken_before taken_after old new bytes false
  pub after : (taken : Option (List ℕ)) (start : Utf8State) (before : List ℕ)
      → HasWrittenUtf8 taken taken_before start old before false
      → HasWrittenUtf8 taken taken_after start new (before ++ bytes) false

-- A sink has taken a prefix of the bytes owed at `start` for `bytes`, whatever follows them: if
-- `last`, nothing.
pub record TakesUtf8Prefix (taken_before taken_after : Option (List ℕ)) (start : Utf8State)
    (bytes : List ℕ) (last : Bool) : Type 0 where
  pub pushed : List ℕ
  pub taken : AppendsContents taken_before taken_after pushed
  pub prefix : (z : List ℕ) → (last ≡ true → z ≡ [])
      → BeginsWithBytes (owed_for_utf8 start (bytes ++ z)) pushed

-- A call fails while it takes `bytes`, or with `last` the end, after whatever was taken before.
abbrev pub StopsUtf8 : Option (List ℕ) → Option (List ℕ) → Utf8State → List ℕ → Bool → Type 0
StopsUtf8 taken_before taken_after old bytes last =
    (taken : Option (List ℕ)) (start : Utf8State) (before : List ℕ)
    → HasWrittenUtf8 taken taken_before start old before false
    → TakesUtf8Prefix taken taken_after start (before ++ bytes) last

-- A call writes the end: the sink has taken all bytes of the text that the whole of the bytes is.
abbrev pub EndsUtf8 : Option (List ℕ) → Option (List ℕ) → Utf8State → Type 0
EndsUtf8 taken_before taken_after old =
    (taken : Option (List ℕ)) (start : Utf8State) (bytes : List ℕ)
    → HasWrittenUtf8 taken taken_before start old bytes false
    → AppendsContents taken taken_after (owed_for_utf8 start bytes)
