-- Writing without replacement, up to an unmappable character (Encoding Standard 4.1, error mode
-- "fatal").
use Rattle.std.specs.Prelude.{◌≡◌, ℕ, true, false, List, [], ◌∷◌, ◌++◌, Option}
use Rattle.enc_input.specs.declared.encoder_result.EncoderResult.{EncoderResult}
use Rattle.enc_input.specs.declared.encoder_result.EncoderResult.TheVariants.{Unmappable}
use Rattle.enc_encoder.specs.Text.{reference_after}
use Rattle.enc_encoder.specs.Unmappable.{any_unmappable, reports_of}
use Rattle.enc_stream.specs.Encoder.{raw_state}
use Rattle.enc_writer.specs.Sink.{AppendsContents}
use Rattle.enc_writer.specs.EncodedText.{bytes_from_state}
use Rattle.enc_writer.specs.Writing.{WriterState, HasWrittenText, owed_bytes}

-- A text is taken up to the characters that are left, all of them mappable, or all except one that
-- is reported. Its bytes follow those held, and the sink takes some of them.
pub record HasReportedText (taken_before taken_after : Option (List ℕ)) (old new : WriterState)
    (text left : List ℕ) (result : EncoderResult) : Type 0 where
  pub encoding : new.encoder.encoding ≡ old.encoder.encoding
  pub barred : new.encoder.barred ≡ old.encoder.barred
  -- the characters taken
  pub front : List ℕ
  pub reads : text ≡ front ++ left
  pub mappable : ((c : ℕ) → result ≡ Unmappable c → ⊥)
      → any_unmappable (raw_state old.encoder).rule front ≡ false
  pub reported : (c : ℕ) → result ≡ Unmappable c
      → reports_of (raw_state old.encoder).rule front ≡ c ∷ []
  pub pushed : List ℕ
  pub taken : AppendsContents taken_before taken_after pushed
  -- Whatever follows, the bytes owed before are those pushed, those held, a reference to the
  -- character reported, and the bytes of the text left.
  pub owed : (z : List ℕ) → owed_bytes old (text ++ z)
      ≡ pushed ++ (new.held ++ (reference_after result ++ bytes_from_state new.encoder (left ++ z)))

-- A writer that was at `start` has taken `text` up to the characters that are left. The last of
-- those taken is reported, and its reference is not written.
pub record HasReachedReport (taken_before taken_after : Option (List ℕ)) (start now : WriterState)
    (text left : List ℕ) (result : EncoderResult) : Type 0 where
  pub encoding : now.encoder.encoding ≡ start.encoder.encoding
  pub barred : now.encoder.barred ≡ start.encoder.barred
  -- the characters taken
  pub front : List ℕ
  pub reads : text ≡ front ++ left
  pub unmappable : any_unmappable (raw_state start.encoder).rule front ≡ true
  pub flag : now.had_unmappables ≡ true
  pub pushed : List ℕ
  pub taken : AppendsContents taken_before taken_after pushed
  -- Whatever follows the characters taken, in place of those left, the bytes owed at the start are
  -- those pushed and those owed now, if the reference is the text written next.
  pub owed : (z : List ℕ) → owed_bytes start (front ++ z)
      ≡ pushed ++ owed_bytes now (reference_after result ++ z)
  -- The reference is its own bytes, and no escape sequence stands before it.
  pub bytes : (z : List ℕ) → owed_bytes start (front ++ z)
      ≡ pushed ++ (now.held ++ (reference_after result ++ bytes_from_state now.encoder z))

-- A call reports a character of `text`, after whatever was written before it.
pub record ReportsText (taken_before taken_after : Option (List ℕ)) (old new : WriterState)
    (text left : List ℕ) (result : EncoderResult) : Type 0 where
  pub alone : HasReportedText taken_before taken_after old new text left result
  pub after : (taken : Option (List ℕ)) (start : WriterState) (before : List ℕ)
      → HasWrittenText taken taken_before start old before
      → HasReachedReport taken taken_after start new (before ++ text) left result
