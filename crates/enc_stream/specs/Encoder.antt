-- Encoders: single calls (Encoding Standard 4.1, "process a queue" with an encoder; 6, "encode" and
-- "encode or fail").
use Rattle.std.specs.Prelude.{◌≡◌, ℕ, ◌<◌, Bool, true, false, List, [], ◌∷◌, length, if◌then◌else◌}
use Rattle.enc_encoder.specs.declared.character_set.CharacterSet.{CharacterSet}
use Rattle.enc_encoder.specs.declared.character_set.CharacterSet.TheVariants.{Ascii}
use Rattle.enc_input.specs.declared.encoder_result.EncoderResult.TheVariants.{InputEmpty}
use Rattle.enc_encoder.specs.EncoderRule.{RawEncoderState}
use Rattle.enc_encoder.specs.Steps.{steps_from_state}
use Rattle.enc_encoder.specs.Text.{bytes_of_text, with_references}
use Rattle.enc_encoder.specs.ErrorMode.{EncodeErrorMode, Html, CallInMode, IsCallInMode}
use Rattle.enc_names.specs.declared.encoding_id.EncodingId.{EncodingId}
use Rattle.enc_names.specs.declared.encoding_id.EncodingId.TheVariants.{Utf8}
use Rattle.enc_stream.specs.declared.encoding.Encoding.{Encoding}
use Rattle.enc_stream.specs.Encodings.{output_rule}
use Rattle.enc_stream.specs.Properties.{output_encoding_of}

-- the bytes of a whole text with references
abbrev pub whole_bytes : List ℕ → Encoding → List ℕ → List ℕ
whole_bytes b e text =
    bytes_of_text (output_rule b e) Ascii (with_references (output_rule b e) text)

-- an encoder as its caller knows it: its encoding, the barred characters, and the designated
-- character set
pub record EncoderState : Type 0 where
  pub encoding : Encoding
  pub barred : List ℕ
  pub set : CharacterSet

-- an encoder at the start of a text, of the output encoding of e, with the characters b barred
abbrev pub fresh_encoder : List ℕ → Encoding → EncoderState
fresh_encoder b e = record { encoding = output_encoding_of e; barred = b; set = Ascii }

-- its rule and its character set
abbrev pub raw_state : EncoderState → RawEncoderState
raw_state v = record { rule = output_rule v.barred v.encoding; set = v.set }

abbrev pub is_utf_8 : EncodingId → Bool
is_utf_8 Utf8 = true
is_utf_8 _ = false

-- whether every character is mappable: in UTF-8, if none is barred
abbrev pub maps_every_character : List ℕ → Encoding → Bool
maps_every_character [] e = is_utf_8 e.id
maps_every_character (c ∷ b) e = false

-- the number of bytes at the end of an output that are kept free: the length of the longest
-- reference, or none if every character is mappable
abbrev pub room_kept_for_references : List ℕ → Encoding → ℕ
room_kept_for_references b e = if maps_every_character b e then 0 else 10

-- the error mode of calls that write references, by the barred characters and the encoding
abbrev pub html_mode_in : List ℕ → Encoding → EncodeErrorMode
html_mode_in b e = Html (room_kept_for_references b e)

-- the error mode of calls that write references
abbrev pub html_mode : EncoderState → EncodeErrorMode
html_mode v = html_mode_in v.barred v.encoding

-- The number of steps left to encode these characters. An escape sequence, a character's bytes, and
-- the report of an unmappable character are one step each.
abbrev pub steps_left : EncoderState → Bool → List ℕ → ℕ
steps_left v last text = length (steps_from_state (raw_state v) last text)

-- Fewer steps are left for the unread characters after a call than were left for those given before
-- it.
abbrev pub LeavesFewerSteps : EncoderState → EncoderState → Bool → List ℕ → List ℕ → Type 0
LeavesFewerSteps old new last text unread = steps_left new last unread < steps_left old last text

-- A call of an encoder. It does the steps that come first, as many as fit, and writes a reference
-- to an unmappable character, or stops there and reports it. Whatever follows, the bytes of the
-- whole text are those that it wrote, a reference to the character reported, and the bytes of the
-- text left.
pub record EncodesChunk (units_of : ℕ → List ℕ) (old new : EncoderState) (c : CallInMode)
    : Type 0 where
  pub encoding : new.encoding ≡ old.encoding
  pub barred : new.barred ≡ old.barred
  pub rest : List ℕ
  pub call : IsCallInMode units_of (raw_state old) (raw_state new) rest c
  -- After the end of a text an encoder is at the start of another.
  pub ended : c.result ≡ InputEmpty → c.last ≡ true
      → new ≡ record { encoding = old.encoding; barred = old.barred; set = Ascii }
