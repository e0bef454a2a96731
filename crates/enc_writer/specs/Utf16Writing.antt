-- Writing text to a sink in UTF-16, through a buffer.
use Rattle.std.specs.Prelude.{◌≡◌, ℕ, List, [], ◌∷◌, ◌++◌, Option}
use Rattle.enc_writer.specs.declared.byte_order.ByteOrder.{ByteOrder}
use Rattle.enc_writer.specs.Sink.{AppendsContents, AppendsPrefix}
use Rattle.enc_writer.specs.Utf16.{utf16_bytes}

-- A writer of UTF-16 between two calls: its byte order, and the bytes that its buffer holds.
pub record Utf16WriterState : Type 0 where
  pub order : ByteOrder
  pub held : List ℕ

-- a writer that has written nothing
abbrev pub fresh_utf16 : ByteOrder → Utf16WriterState
fresh_utf16 order = record { order = order; held = [] }

-- a writer that has written the byte order mark, U+FEFF, alone
abbrev pub marked_utf16 : ByteOrder → Utf16WriterState
marked_utf16 order = record { order = order; held = utf16_bytes order (0xFEFF ∷ []) }

-- the bytes that a writer owes its sink, if this text follows: those held, and those of the text
abbrev pub owed_utf16 : Utf16WriterState → List ℕ → List ℕ
owed_utf16 w text = w.held ++ utf16_bytes w.order text

-- A writer has written `text` since it was at `start`, by what its sink had taken then and has
-- taken now.
pub record HasWrittenUtf16 (taken_before taken_after : Option (List ℕ))
    (start now : Utf16WriterState) (text : List ℕ) : Type 0 where
  pub order : now.order ≡ start.order
  pub pushed : List ℕ
  pub taken : AppendsContents taken_before taken_after pushed
  -- The bytes owed at the start are those pushed and those held now.
  pub owed : owed_utf16 start text ≡ pushed ++ now.held

-- A call writes `text`, after whatever was written before it.
pub record WritesUtf16 (taken_before taken_after : Option (List ℕ)) (old new : Utf16WriterState)
    (text : List ℕ) : Type 0 where
  pub alone : HasWrittenUtf16 taken_before taken_after old new text
  pub after : (taken : Option (List ℕ)) (start : Utf16WriterState) (before : List ℕ)
      → HasWrittenUtf16 taken taken_before start old before
      → HasWrittenUtf16 taken taken_after start new (before ++ text)

-- A call fails while it writes `text`, after whatever was written before it: the sink has taken a
-- prefix of the bytes of all text.
abbrev pub StopsUtf16 : Option (List ℕ) → Option (List ℕ) → Utf16WriterState → List ℕ → Type 0
StopsUtf16 taken_before taken_after old text =
    (taken : Option (List ℕ)) (start : Utf16WriterState) (before : List ℕ)
    → HasWrittenUtf16 taken taken_before start old before
    → AppendsPrefix taken taken_after (owed_utf16 start (before ++ text))

-- A call pushes all bytes: the sink has taken those of all text written.
abbrev pub EndsUtf16 : Option (List ℕ) → Option (List ℕ) → Utf16WriterState → Type 0
EndsUtf16 taken_before taken_after old =
    (taken : Option (List ℕ)) (start : Utf16WriterState) (text : List ℕ)
    → HasWrittenUtf16 taken taken_before start old text
    → AppendsContents taken taken_after (owed_utf16 start text)
