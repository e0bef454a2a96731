-- Writing text to a sink through an encoder and a buffer (Encoding Standard 6, "encode", a text at
-- a time).
use Rattle.std.specs.Prelude.{◌≡◌, ℕ, ◌+◌, ◌≤◌, Bool, true, false, ◌||◌, List, [], ◌++◌, Option, length}
use Rattle.enc_encoder.specs.declared.character_set.CharacterSet.TheVariants.{Ascii}
use Rattle.enc_encoder.specs.Unmappable.{any_unmappable}
use Rattle.enc_stream.specs.declared.encoding.Encoding.{Encoding}
use Rattle.enc_stream.specs.Encoder.{EncoderState, fresh_encoder, raw_state}
use Rattle.enc_writer.specs.Sink.{AppendsContents, BeginsWithBytes}
use Rattle.enc_writer.specs.EncodedText.{bytes_from_state, text_to_encode, EncodesText}

-- A writer between two calls: its encoder, the bytes that its buffer holds, and whether a character
-- was unmappable.
pub record WriterState : Type 0 where
  pub encoder : EncoderState
  pub held : List ℕ
  pub had_unmappables : Bool

-- a writer of the output encoding of e that has written nothing
abbrev pub fresh_writer : Encoding → WriterState
fresh_writer e = record { encoder = fresh_encoder [] e; held = []; had_unmappables = false }

-- a writer that has ended a text: it is at the start of another
abbrev pub ended_writer : WriterState → WriterState
ended_writer w = record {
  encoder = record w.encoder { set = Ascii };
  held = [];
  had_unmappables = w.had_unmappables;
}

-- The bytes that a writer owes its sink, if this text follows and nothing after it: those held, and
-- those of the text with references.
abbrev pub owed_bytes : WriterState → List ℕ → List ℕ
owed_bytes w text = w.held ++ bytes_from_state w.encoder text

-- The bytes owed for a text fit into a buffer of `len` bytes, and leave 14 bytes free.
abbrev pub FitsInBuffer : WriterState → List ℕ → ℕ → Type 0
FitsInBuffer w text len = length (owed_bytes w text) + 14 ≤ len

-- whether a character was unmappable, or one of this text is
abbrev pub flag_after : WriterState → List ℕ → Bool
flag_after w text = w.had_unmappables || any_unmappable (raw_state w.encoder).rule text

-- A writer has written `text` since it was at `start`, by what its sink had taken then and has
-- taken now.
pub record HasWrittenText (taken_before taken_after : Option (List ℕ)) (start now : WriterState)
    (text : List ℕ) : Type 0 where
  pub encoding : now.encoder.encoding ≡ start.encoder.encoding
  pub barred : now.encoder.barred ≡ start.encoder.barred
  pub pushed : List ℕ
  pub taken : AppendsContents taken_before taken_after pushed
  -- Whatever text follows, the bytes owed at the start are those pushed and those owed now.
  pub owed : (z : List ℕ) → owed_bytes start (text ++ z) ≡ pushed ++ owed_bytes now z
  pub flag : now.had_unmappables ≡ flag_after start text

-- A call writes `text`, after whatever was written before it.
pub record WritesText (taken_before taken_after : Option (List ℕ)) (old new : WriterState)
    (text : List ℕ) : Type 0 where
  pub alone : HasWrittenText taken_before taken_after old new text
  pub after : (taken : Option (List ℕ)) (start : WriterState) (before : List ℕ)
      → HasWrittenText taken taken_before start old before
      → HasWrittenText taken taken_after start new (before ++ text)

-- A sink has taken a prefix of the bytes owed at `start` for `text`, whatever follows the text: if
-- `last`, nothing.
pub record TakesPrefix (taken_before taken_after : Option (List ℕ)) (start : WriterState)
    (text : List ℕ) (last : Bool) : Type 0 where
  pub pushed : List ℕ
  pub taken : AppendsContents taken_before taken_after pushed
  pub prefix : (z : List ℕ) → (last ≡ true → z ≡ [])
      → BeginsWithBytes (owed_bytes start (text ++ z)) pushed

-- A call fails while it writes `text`, or with `last` the end, after whatever was written before.
abbrev pub StopsWithin : Option (List ℕ) → Option (List ℕ) → WriterState → List ℕ → Bool → Type 0
StopsWithin taken_before taken_after old text last =
    (taken : Option (List ℕ)) (start : WriterState) (before : List ℕ)
    → HasWrittenText taken taken_before start old before
    → TakesPrefix taken taken_after start (before ++ text) last

-- A call writes the end of a text: the sink has taken all its bytes.
abbrev pub EndsText : Option (List ℕ) → Option (List ℕ) → WriterState → Type 0
EndsText taken_before taken_after old =
    (taken : Option (List ℕ)) (start : WriterState) (text : List ℕ)
    → HasWrittenText taken taken_before start old text
    → AppendsContents taken taken_after (owed_bytes start text)

-- The steps of a call: bytes follow those held, and the sink takes some of them.
pub record PushesBytes (taken_before taken_after : Option (List ℕ)) (old new : WriterState)
    (bytes : List ℕ) : Type 0 where
  pub encoder : new.encoder ≡ old.encoder
  pub flag : new.had_unmappables ≡ old.had_unmappables
  pub pushed : List ℕ
  pub taken : AppendsContents taken_before taken_after pushed
  pub bytes_kept : old.held ++ bytes ≡ pushed ++ new.held

-- A text is encoded up to the characters that are left, its bytes follow those held, and the sink
-- takes some of them.
pub record HasEncoded (taken_before taken_after : Option (List ℕ)) (old new : WriterState)
    (text left : List ℕ) (last : Bool) : Type 0 where
  pub wrote : List ℕ
  pub replaced : Bool
  pub encoded : EncodesText (text_to_encode old.encoder text) (text_to_encode new.encoder left) last
      wrote replaced
  pub flag : new.had_unmappables ≡ (old.had_unmappables || replaced)
  pub pushed : List ℕ
  pub taken : AppendsContents taken_before taken_after pushed
  pub bytes_kept : old.held ++ wrote ≡ pushed ++ new.held
