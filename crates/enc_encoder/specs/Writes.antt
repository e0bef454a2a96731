-- What steps leave, and the bytes that they write to a slice.
use Rattle.std.specs.Prelude.{◌≡◌, ℕ, ◌+◌, ◌≤◌, Bool, false, List, ◌++◌, length, take, drop}
use Rattle.enc_encoder.specs.EncoderRule.{RawEncoderState}
use Rattle.enc_encoder.specs.Steps.{Step, steps_from_state, step_chars, step_bytes, any_reported, set_after_steps}

-- These steps come first, in order. They lead from one state to the other, and leave the characters
-- `rest` unread. Nothing follows the characters if `last`.
pub record Leaves (last : Bool) (old new : RawEncoderState) (src rest : List ℕ)
    (done : List Step) : Type 0 where
  pub reads : src ≡ step_chars done ++ rest
  pub remaining : steps_from_state old last src ≡ done ++ steps_from_state new last rest
  pub rule : new.rule ≡ old.rule
  pub set : new.set ≡ set_after_steps old.set done

-- Bytes are written to a slice from one place to another, and its other bytes are unchanged.
pub record Adds (before after : List ℕ) (from to : ℕ) (bytes : List ℕ) : Type 0 where
  pub count : to ≡ from + length bytes
  pub fits : to ≤ length before
  pub onto : after ≡ take from before ++ (bytes ++ drop to before)

-- Where a call is: the encoder's state, the characters to come, the slice, and the number of bytes
-- written to it.
pub record Place : Type 0 where
  pub state : RawEncoderState
  pub rest : List ℕ
  pub slice : List ℕ
  pub written : ℕ

abbrev pub place : RawEncoderState → List ℕ → List ℕ → ℕ → Place
place v rest slice written =
    record { state = v; rest = rest; slice = slice; written = written }

-- Steps lead from one place to another. None is a report, and their bytes are written.
pub record Writes (last : Bool) (from to : Place) : Type 0 where
  pub done : List Step
  pub leaves : Leaves last from.state to.state from.rest to.rest done
  pub none_reported : any_reported done ≡ false
  pub adds : Adds from.slice to.slice from.written to.written (step_bytes done)
