-- The number of bytes that a call of an encoder has to write, and which lengths are enough for it.
use Rattle.std.specs.Prelude.{◌≡◌, ℕ, ◌≤◌, Bool, false, List, ◌++◌, length}
use Rattle.enc_utf8.specs.Text.{units_of_text}
use Rattle.enc_input.specs.declared.encoder_result.EncoderResult.{EncoderResult}
use Rattle.enc_input.specs.declared.encoder_result.EncoderResult.TheVariants.{InputEmpty}
use Rattle.enc_encoder.specs.Need.{encode_need, MeetsEncodeNeed}
use Rattle.enc_encoder.specs.Unmappable.{any_unmappable}
use Rattle.enc_encoder.specs.ErrorMode.{CallInMode}
use Rattle.enc_stream.specs.Encodings.{output_rule}
use Rattle.enc_stream.specs.Encoder.{EncoderState, raw_state, html_mode, EncodesChunk}

-- A call without replacement, by its need: the output is full exactly if the need of the text
-- exceeds the room, and the bytes written are subtracted. `read` is the number of code units of the
-- text read. The rest is unread.
pub record EncodesByNeed (units_of : ℕ → List ℕ) (old new : EncoderState) (src : List ℕ)
    (last : Bool) (room : ℕ) (result : EncoderResult) (read written : ℕ) : Type 0 where
  pub front : List ℕ
  pub rest : List ℕ
  pub parts : src ≡ front ++ rest
  pub units : read ≡ length (units_of_text units_of front)
  pub meets : MeetsEncodeNeed (raw_state old) (raw_state new) src rest last room result written

-- From this state the room is enough for any call with n code units, up to an unmappable character.
abbrev pub IsEnoughForEncoding : (ℕ → List ℕ) → EncoderState → ℕ → ℕ → Type 0
IsEnoughForEncoding units_of v n room = (src : List ℕ) (last : Bool)
    → length (units_of_text units_of src) ≡ n → encode_need (raw_state v) last src ≤ room

-- The room is enough for any call with references and n code units, if no character is unmappable:
-- the call reads all.
abbrev pub IsEnoughIfMappable : (ℕ → List ℕ) → EncoderState → ℕ → ℕ → Type 0
IsEnoughIfMappable units_of v n enough =
    (new : EncoderState) (c : CallInMode) → c.mode ≡ html_mode v
    → length (units_of_text units_of c.src) ≡ n
    → any_unmappable (output_rule v.barred v.encoding) c.src ≡ false → enough ≤ c.room
    → EncodesChunk units_of v new c → c.result ≡ InputEmpty
