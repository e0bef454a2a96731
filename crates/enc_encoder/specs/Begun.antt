-- Calls of an encoder that have begun.
use Rattle.std.specs.Prelude.{◌≡◌, ℕ, List, length}
use Rattle.enc_utf8.specs.Text.{units_of_text}
use Rattle.enc_input.specs.declared.encoder_result.EncoderResult.{EncoderResult}
use Rattle.enc_encoder.specs.declared.begun.Begun.{Begun}
use Rattle.enc_encoder.specs.EncoderRule.{RawEncoderState}
use Rattle.enc_encoder.specs.Writes.{Writes, Place, place}
use Rattle.enc_encoder.specs.Call.{EncoderCallInto}

-- A call is here: it began in the same state, with characters of as many code units as it was given
-- and with a slice. It has written the bytes of the first characters to the start of the slice.
pub record HasBegun (units_of : ℕ → List ℕ) (begun : Begun) (v : RawEncoderState)
    (rest slice : List ℕ) : Type 0 where
  pub given : List ℕ
  pub before : List ℕ
  pub counted : begun.given ≡ length (units_of_text units_of given)
  pub writes : Writes begun.last (place v given before 0) (place v rest slice begun.written)

-- From wherever a call that is here began, it ends there.
abbrev pub EndsCall : (ℕ → List ℕ) → Begun → RawEncoderState → List ℕ → List ℕ → Place
    → EncoderResult → ℕ → Type 0
EndsCall units_of begun v rest slice to result read =
    (start : HasBegun units_of begun v rest slice)
    → EncoderCallInto units_of begun.last (place v start.given start.before 0) to result read
