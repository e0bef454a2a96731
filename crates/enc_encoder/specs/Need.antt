-- The number of bytes that an encoder's call has to write, and which lengths are enough.
use Rattle.std.specs.Prelude.{◌≡◌, ◌↔◌, ℕ, ◌+◌, ◌<◌, ◌≤◌, Bool, Option, Some, None, List, [], ◌∷◌, length}
use Rattle.std.specs.Char.{encode_utf8}
use Rattle.std.specs.Char.Escape.{encode_utf16}
use Rattle.enc_utf8.specs.Text.{units_of_text}
use Rattle.enc_encoder.specs.declared.byte_lengths.ByteLengths.{ByteLengths}
use Rattle.enc_input.specs.declared.encoder_result.EncoderResult.{EncoderResult}
use Rattle.enc_input.specs.declared.encoder_result.EncoderResult.TheVariants.{InputEmpty, OutputFull, Unmappable}
use Rattle.enc_encoder.specs.EncoderRule.{RawEncoderState}
use Rattle.enc_encoder.specs.Lengths.{from_utf_8_length, from_utf_16_length}
use Rattle.enc_encoder.specs.Steps.{Step, steps_from_state, step_bytes}

-- a step and those after it, unless it is a report
abbrev pub steps_unless_report : Option ℕ → Step → List Step → List Step
steps_unless_report None p ps = p ∷ ps
steps_unless_report (Some c) p ps = []

-- the steps before the first report
abbrev pub steps_before_report : List Step → List Step
steps_before_report [] = []
steps_before_report (p ∷ ps) = steps_unless_report p.report p (steps_before_report ps)

-- The need of a call: the number of bytes of its steps before the first report, with the escape
-- sequence before that, if any.
abbrev pub encode_need : RawEncoderState → Bool → List ℕ → ℕ
encode_need v last src = length (step_bytes (steps_before_report (steps_from_state v last src)))

-- the need left after a call: that of the unread text, but nothing after an unmappable character
abbrev pub encode_need_left : RawEncoderState → Bool → List ℕ → EncoderResult → ℕ
encode_need_left new last rest InputEmpty = encode_need new last rest
encode_need_left new last rest OutputFull = encode_need new last rest
encode_need_left new last rest (Unmappable c) = 0

-- The output is full exactly if the need exceeds the room. The need before a call is what it wrote
-- and the need left.
pub record MeetsEncodeNeed (old new : RawEncoderState) (src rest : List ℕ) (last : Bool) (room : ℕ)
    (result : EncoderResult) (written : ℕ) : Type 0 where
  pub full : (result ≡ OutputFull) ↔ (room < encode_need old last src)
  pub falls : encode_need old last src ≡ written + encode_need_left new last rest result

-- The lengths of these formulas are enough: the need of a text with that number of code units, in
-- UTF-8 or UTF-16, does not exceed them.
pub record AreEnoughForEncoder (lengths : ByteLengths) (v : RawEncoderState) : Type 0 where
  pub from_utf_8 : (src : List ℕ) (last : Bool) (q : ℕ)
      → from_utf_8_length lengths (length (units_of_text encode_utf8 src)) ≡ Some q
      → encode_need v last src ≤ q
  pub from_utf_16 : (src : List ℕ) (last : Bool) (q : ℕ)
      → from_utf_16_length lengths (length (units_of_text encode_utf16 src)) ≡ Some q
      → encode_need v last src ≤ q
