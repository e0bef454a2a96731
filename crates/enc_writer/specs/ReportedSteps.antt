-- The steps of writing without replacement, and their bytes.
use Rattle.std.specs.Prelude.{◌≡◌, ℕ, true, false, List, ◌++◌, Option}
use Rattle.enc_input.specs.declared.encoder_result.EncoderResult.{EncoderResult}
use Rattle.enc_input.specs.declared.encoder_result.EncoderResult.TheVariants.{Unmappable}
use Rattle.enc_encoder.specs.ErrorMode.{ends_in_report}
use Rattle.enc_encoder.specs.Steps.{Step, bytes_with_references}
use Rattle.enc_encoder.specs.Text.{reference_after}
use Rattle.enc_encoder.specs.Writes.{Leaves}
use Rattle.enc_stream.specs.Encoder.{raw_state}
use Rattle.enc_writer.specs.Writing.{WriterState}
use Rattle.enc_writer.specs.Reporting.{HasReportedText}

-- A text is taken by these steps, which end in a report if a character is reported.
pub record ReportsSteps (taken_before taken_after : Option (List ℕ)) (old new : WriterState)
    (text left : List ℕ) (result : EncoderResult) : Type 0 where
  pub reports : HasReportedText taken_before taken_after old new text left result
  pub done : List Step
  pub leaves : Leaves false (raw_state old.encoder) (raw_state new.encoder) text left done
  pub ends : (c : ℕ) → result ≡ Unmappable c → ends_in_report done ≡ true
  pub wrote : List ℕ
  -- The reference to the character reported is not written.
  pub bytes : bytes_with_references done ≡ wrote ++ reference_after result
  pub bytes_kept : old.held ++ wrote ≡ reports.pushed ++ new.held
