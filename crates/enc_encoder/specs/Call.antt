-- A call of an encoder without replacement (Encoding Standard 4.1, error mode "fatal", with a
-- bounded output).
use Rattle.std.specs.Prelude.{◌≡◌, ℕ, ◌+◌, ◌<◌, ◌≤◌, Bool, true, false, Some, None, List, [], ◌∷◌, ◌++◌, length}
use Rattle.enc_utf8.specs.Text.{units_of_text}
use Rattle.enc_input.specs.declared.encoder_result.EncoderResult.{EncoderResult}
use Rattle.enc_input.specs.declared.encoder_result.EncoderResult.TheVariants.{InputEmpty, OutputFull, Unmappable}
use Rattle.enc_encoder.specs.declared.character_set.CharacterSet.TheVariants.{Ascii}
use Rattle.enc_encoder.specs.EncoderRule.{RawEncoderState}
use Rattle.enc_encoder.specs.Text.{KeepsText}
use Rattle.enc_encoder.specs.Need.{MeetsEncodeNeed}
use Rattle.enc_encoder.specs.Writes.{Adds, Place}
use Rattle.enc_encoder.specs.Steps.{Step, steps_from_state, step_chars, step_bytes, any_reported, set_after_steps}

-- all characters are read, and with `last` no escape sequence is due
pub record EncoderAtInputEmpty (new : RawEncoderState) (rest : List ℕ) (last : Bool)
    (done : List Step) : Type 0 where
  pub none_reported : any_reported done ≡ false
  pub all_read : rest ≡ []
  pub ended : last ≡ true → new.set ≡ Ascii

-- the bytes of the next step do not fit
pub record EncoderAtOutputFull (new : RawEncoderState) (rest : List ℕ) (last : Bool) (room : ℕ)
    (done : List Step) : Type 0 where
  pub none_reported : any_reported done ≡ false
  pub next : Step
  pub others : List Step
  pub comes : steps_from_state new last rest ≡ next ∷ others
  pub not_report : next.report ≡ None
  pub full : room < length (step_bytes done) + length next.bytes

-- the last step reports a character
pub record AtUnmappable (done : List Step) (c : ℕ) : Type 0 where
  pub before : List Step
  pub none_reported : any_reported before ≡ false
  pub report : Step
  pub then_report : done ≡ before ++ report ∷ []
  pub reported : report.report ≡ Some c
  pub none_written : report.bytes ≡ []
  pub char : ℕ
  pub char_read : report.reads ≡ char ∷ []

-- why a call stopped
abbrev pub EncoderStops : RawEncoderState → List ℕ → Bool → ℕ → List Step → EncoderResult → Type 0
EncoderStops new rest last room done InputEmpty = EncoderAtInputEmpty new rest last done
EncoderStops new rest last room done OutputFull = EncoderAtOutputFull new rest last room done
EncoderStops new rest last room done (Unmappable c) = AtUnmappable done c

-- A call of an encoder with the characters `src`, which nothing follows if `last`, over an output
-- of `room` bytes. It does the steps that come first, in order, and leaves the characters `rest`
-- unread.
pub record EncoderCall (old new : RawEncoderState) (src rest : List ℕ) (last : Bool) (room : ℕ)
    (result : EncoderResult) (wrote : List ℕ) : Type 0 where
  pub done : List Step
  pub reads : src ≡ step_chars done ++ rest
  pub remaining : steps_from_state old last src ≡ done ++ steps_from_state new last rest
  pub rule : new.rule ≡ old.rule
  pub set : new.set ≡ set_after_steps old.set done
  pub bytes : wrote ≡ step_bytes done
  pub fits : length wrote ≤ room
  pub stops : EncoderStops new rest last room done result

-- The same, for a call that writes to the start of a slice, leaves its other bytes unchanged, and
-- has read this number of code units. It writes by its need. Whatever follows, the bytes of the
-- whole text are what it wrote, a reference to the character reported, and the bytes of the rest.
pub record EncoderCallInto (units_of : ℕ → List ℕ) (last : Bool) (from to : Place)
    (result : EncoderResult) (read : ℕ) : Type 0 where
  pub wrote : List ℕ
  pub adds : Adds from.slice to.slice from.written to.written wrote
  pub call : EncoderCall from.state to.state from.rest to.rest last (length from.slice) result
      wrote
  pub units : read ≡ length (units_of_text units_of (step_chars call.done))
  pub text : KeepsText from.state to.state from.rest to.rest last result wrote
  pub need : MeetsEncodeNeed from.state to.state from.rest to.rest last (length from.slice) result
      to.written
