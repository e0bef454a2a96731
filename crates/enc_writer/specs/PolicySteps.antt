-- The steps of writing with a policy, and their bytes.
use Rattle.std.specs.Prelude.{◌≡◌, ℕ, ◌||◌, false, List, ◌++◌, Option}
use Rattle.enc_encoder.specs.Steps.{Step, any_reported}
use Rattle.enc_encoder.specs.Writes.{Leaves}
use Rattle.enc_stream.specs.Encoder.{raw_state}
use Rattle.enc_writer.specs.Sink.{AppendsContents}
use Rattle.enc_writer.specs.Writing.{WriterState}
use Rattle.enc_writer.specs.Policies.{bytes_with}

-- A text is encoded by these steps, up to the characters that are left. Their bytes, with these for
-- each report, follow those held, and the sink takes some of them.
pub record HasEncodedWith (put : ℕ → List ℕ) (taken_before taken_after : Option (List ℕ))
    (old new : WriterState) (text left : List ℕ) : Type 0 where
  pub encoding : new.encoder.encoding ≡ old.encoder.encoding
  pub barred : new.encoder.barred ≡ old.encoder.barred
  pub done : List Step
  pub leaves : Leaves false (raw_state old.encoder) (raw_state new.encoder) text left done
  pub flag : new.had_unmappables ≡ (old.had_unmappables || any_reported done)
  pub pushed : List ℕ
  pub taken : AppendsContents taken_before taken_after pushed
  pub bytes_kept : old.held ++ bytes_with put done ≡ pushed ++ new.held
