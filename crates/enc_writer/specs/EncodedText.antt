-- The result of several calls of an encoder: the characters read, and their bytes.
use Rattle.std.specs.Prelude.{◌≡◌, ℕ, Bool, true, List, [], ◌++◌}
use Rattle.enc_encoder.specs.Text.{bytes_of_text, with_references}
use Rattle.enc_encoder.specs.Unmappable.{any_unmappable}
use Rattle.enc_stream.specs.Encoder.{EncoderState, raw_state}

-- the bytes of a text still to be encoded, with references
abbrev pub bytes_from_state : EncoderState → List ℕ → List ℕ
bytes_from_state state text =
    bytes_of_text (raw_state state).rule state.set (with_references (raw_state state).rule text)

-- An encoder, and the text that it is to encode.
pub record TextToEncode : Type 0 where
  pub encoder : EncoderState
  pub text : List ℕ

abbrev pub text_to_encode : EncoderState → List ℕ → TextToEncode
text_to_encode encoder text = record { encoder = encoder; text = text }

-- the bytes of such a text, and of z after it
abbrev pub bytes_to_come : TextToEncode → List ℕ → List ℕ
bytes_to_come s z = bytes_from_state s.encoder (s.text ++ z)

-- An encoder reads a text up to the characters that are left. If `last`, nothing follows them.
pub record EncodesText (old new : TextToEncode) (last : Bool) (wrote : List ℕ)
    (replaced : Bool) : Type 0 where
  pub encoding : new.encoder.encoding ≡ old.encoder.encoding
  pub barred : new.encoder.barred ≡ old.encoder.barred
  -- the characters read
  pub front : List ℕ
  pub reads : old.text ≡ front ++ new.text
  -- The bytes to write before are those written and those still to write now.
  pub residual : (z : List ℕ) → (last ≡ true → z ≡ [])
      → bytes_to_come old z ≡ wrote ++ bytes_to_come new z
  pub flag : replaced ≡ any_unmappable (raw_state old.encoder).rule front
