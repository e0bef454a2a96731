-- Writing with a policy for unmappable characters: the bytes are those of the encoder's steps, with
-- the policy's for each report.
use Rattle.std.specs.Prelude.{◌≡◌, ℕ, ◌+◌, ◌≤◌, Bool, true, false, Option, Some, None, List, [], ◌∷◌, ◌++◌, length}
use Rattle.std.specs.Fmt.{digits}
use Rattle.enc_encoder.specs.Steps.{Step, steps_from_state, set_after_steps}
use Rattle.enc_encoder.specs.Text.{reference}
use Rattle.enc_stream.specs.Encoder.{EncoderState, raw_state}
use Rattle.enc_writer.specs.declared.unmappable_policy.UnmappablePolicy.{UnmappablePolicy}
use Rattle.enc_writer.specs.declared.unmappable_policy.UnmappablePolicy.TheVariants.{Reference, HexReference}
use Rattle.enc_writer.specs.declared.unmappable_policy.UnmappablePolicy.TheVariants.{Ignore, QuestionMark}
use Rattle.enc_writer.specs.Sink.{AppendsContents}
use Rattle.enc_writer.specs.Writing.{WriterState, flag_after}

-- the hexadecimal character reference `&#x..;`: upper-case digits without leading zeros
abbrev pub hex_reference : ℕ → List ℕ
hex_reference c = 0x26 ∷ 0x23 ∷ 0x78 ∷ (digits 16 true c ++ 0x3B ∷ [])

-- the bytes that a policy puts for a character that is reported
abbrev pub policy_bytes : UnmappablePolicy → ℕ → List ℕ
policy_bytes Reference c = reference c
policy_bytes HexReference c = hex_reference c
policy_bytes Ignore c = []
policy_bytes QuestionMark c = 0x3F ∷ []

-- the bytes for a report, by those put for each character
abbrev pub bytes_for_report : (ℕ → List ℕ) → Option ℕ → List ℕ
bytes_for_report put None = []
bytes_for_report put (Some c) = put c

-- the bytes that steps write, with these for each report
abbrev pub bytes_with : (ℕ → List ℕ) → List Step → List ℕ
bytes_with put [] = []
bytes_with put (p ∷ ps) = (p.bytes ++ bytes_for_report put p.report) ++ bytes_with put ps

-- the bytes of a text still to be encoded, with these for each report, and with `last` of its end
abbrev pub encoded_with : (ℕ → List ℕ) → EncoderState → Bool → List ℕ → List ℕ
encoded_with put encoder last text = bytes_with put (steps_from_state (raw_state encoder) last text)

-- The bytes that a writer owes its sink, if this text follows with these bytes for each report, and
-- with `last` its end: those held, and those of the text.
abbrev pub owed_with : (ℕ → List ℕ) → WriterState → Bool → List ℕ → List ℕ
owed_with put w last text = w.held ++ encoded_with put w.encoder last text

-- The bytes owed for a text fit into a buffer of `len` bytes, and leave 14 bytes free.
abbrev pub FitsInBufferWith : (ℕ → List ℕ) → WriterState → List ℕ → ℕ → Type 0
FitsInBufferWith put w text len = length (owed_with put w false text) + 14 ≤ len

-- A writer has written `text` since it was at `start`, with these bytes for each report, by what
-- its sink had taken then and has taken now.
pub record HasWrittenWith (put : ℕ → List ℕ) (taken_before taken_after : Option (List ℕ))
    (start now : WriterState) (text : List ℕ) : Type 0 where
  pub encoding : now.encoder.encoding ≡ start.encoder.encoding
  pub barred : now.encoder.barred ≡ start.encoder.barred
  pub set : now.encoder.set
      ≡ set_after_steps start.encoder.set (steps_from_state (raw_state start.encoder) false text)
  pub pushed : List ℕ
  pub taken : AppendsContents taken_before taken_after pushed
  -- Whatever text follows, the bytes owed at the start are those pushed and those owed now.
  pub owed : (last : Bool) (z : List ℕ)
      → owed_with put start last (text ++ z) ≡ pushed ++ owed_with put now last z
  pub flag : now.had_unmappables ≡ flag_after start text

-- A call writes `text`, after whatever was written before it with the same bytes for each report.
-- `alone` has the bytes and the character set after them: so texts of several policies follow one
-- another too.
pub record WritesWith (put : ℕ → List ℕ) (taken_before taken_after : Option (List ℕ))
    (old new : WriterState) (text : List ℕ) : Type 0 where
  pub alone : HasWrittenWith put taken_before taken_after old new text
  pub after : (taken : Option (List ℕ)) (start : WriterState) (before : List ℕ)
      → HasWrittenWith put taken taken_before start old before
      → HasWrittenWith put taken taken_after start new (before ++ text)

-- A writer that was at `start` has failed while it wrote `text`. It has taken a front of the text,
-- and its sink a prefix of the bytes of that front.
pub record HasStoppedWith (put : ℕ → List ℕ) (taken_before taken_after : Option (List ℕ))
    (start now : WriterState) (text : List ℕ) : Type 0 where
  pub encoding : now.encoder.encoding ≡ start.encoder.encoding
  pub barred : now.encoder.barred ≡ start.encoder.barred
  -- the characters taken, and the others
  pub front : List ℕ
  pub rest : List ℕ
  pub reads : text ≡ front ++ rest
  -- No other character counts as unmappable.
  pub flag : now.had_unmappables ≡ flag_after start front
  -- the bytes that the sink has taken, and the bytes of the front that it has not
  pub pushed : List ℕ
  pub lost : List ℕ
  pub taken : AppendsContents taken_before taken_after pushed
  -- Whatever follows the text, the bytes owed at the start are those pushed, those lost, and those
  -- of the other characters.
  pub owed : (last : Bool) (z : List ℕ) → owed_with put start last (text ++ z)
      ≡ pushed ++ (lost ++ encoded_with put now.encoder last (rest ++ z))

-- A call fails while it writes `text`, after whatever was written before it.
pub record StopsWith (put : ℕ → List ℕ) (taken_before taken_after : Option (List ℕ))
    (old new : WriterState) (text : List ℕ) : Type 0 where
  pub alone : HasStoppedWith put taken_before taken_after old new text
  pub after : (taken : Option (List ℕ)) (start : WriterState) (before : List ℕ)
      → HasWrittenWith put taken taken_before start old before
      → HasStoppedWith put taken taken_after start new (before ++ text)

-- A call writes the end of a text that was written with these bytes for each report: the sink has
-- taken all its bytes.
abbrev pub EndsWith : (ℕ → List ℕ) → Option (List ℕ) → Option (List ℕ) → WriterState → Type 0
EndsWith put taken_before taken_after old =
    (taken : Option (List ℕ)) (start : WriterState) (text : List ℕ)
    → HasWrittenWith put taken taken_before start old text
    → AppendsContents taken taken_after (owed_with put start true text)
