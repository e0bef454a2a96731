-- One-shot calls, for whole inputs (Encoding Standard 6, "decode", "UTF-8 decode", "UTF-8 decode
-- without BOM" and "UTF-8 decode without BOM or fail", for any encoding, and "encode").
use Rattle.std.specs.Prelude.{◌≡◌, ◌≢◌, ℕ, ◌≤◌, ◌⊎◌, Bool, true, Option, Some, None, List, [], ◌∷◌, ◌++◌, max}
use Rattle.std.specs.Prelude.{chars, length, drop, if◌then◌else◌}
use Rattle.std.specs.Char.{encode_utf8}
use Rattle.enc_utf8.specs.Checked.{checked_add}
use Rattle.enc_encoder.specs.Text.{bytes_of_text, with_references}
use Rattle.enc_encoder.specs.Lengths.{from_utf_8_length}
use Rattle.enc_utf8.specs.declared.coder_result.CoderResult.TheVariants.{OutputFull}
use Rattle.enc_input.specs.declared.encoder_result.EncoderResult.TheVariants as encoder_result
use Rattle.enc_stream.specs.declared.bom.BomHandling.{BomHandling}
use Rattle.enc_stream.specs.declared.bom.BomHandling.TheVariants.{Off}
use Rattle.enc_stream.specs.declared.encoding.Encoding.{Encoding}
use Rattle.enc_stream.specs.declared.lengths.Query.TheVariants.{Utf8, Utf8Reporting}
use Rattle.enc_stream.specs.Decoding.{DecoderState, fresh_decoder, whole_utf_8, whole_malformed, AnswersDecode}
use Rattle.enc_stream.specs.Decoding.{replacing_call}
use Rattle.enc_stream.specs.Encoder.{EncoderState, EncodesChunk, fresh_encoder, raw_state, html_mode, whole_bytes}
use Rattle.enc_stream.specs.Encoder.{room_kept_for_references}
use Rattle.enc_stream.specs.Properties.{output_encoding_of}
use Rattle.enc_stream.specs.Lengths.{max_length, output_lengths}

-- the text, in UTF-8, of bytes without a malformed sequence
abbrev pub utf_8_without_replacement : Encoding → List ℕ → Option (List ℕ)
utf_8_without_replacement e bytes =
    if whole_malformed Off e bytes then None else Some (whole_utf_8 Off e bytes)

-- there is a length, and the room is at least that
abbrev pub HasRoomFor : Option ℕ → ℕ → Type 0
HasRoomFor None room = ⊥
HasRoomFor (Some more) room = more ≤ room

-- there is a length, and the room is that, or four bytes if it is less
abbrev pub HasRoomExactlyFor : Option ℕ → ℕ → Type 0
HasRoomExactlyFor None room = ⊥
HasRoomExactlyFor (Some more) room = room ≡ max more 4

-- the first length query: for the whole input, without replacement
abbrev pub first_length : BomHandling → Encoding → List ℕ → Option ℕ
first_length handling e bytes = max_length Utf8Reporting (fresh_decoder handling e) (length bytes)

-- The first call, with the whole input and room for exactly the first length, returns `OutputFull`.
-- Then the length query for the remaining bytes, or its sum with the bytes written, overflows
-- usize.
pub record IsTooLongAfterFull (handling : BomHandling) (e : Encoding)
    (bytes : List ℕ) : Type 0 where
  pub room : ℕ
  pub enough : HasRoomFor (first_length handling e bytes) room
  pub exact : HasRoomExactlyFor (first_length handling e bytes) room
  pub state : DecoderState
  pub read : ℕ
  pub wrote : List ℕ
  pub replaced : Bool
  pub call : AnswersDecode encode_utf8 4 (fresh_decoder handling e) state
      (replacing_call bytes true room OutputFull read wrote replaced)
  pub passes : checked_add (max_length Utf8 state (length (drop read bytes))) (length wrote)
      ≡ None

-- The first length query overflows usize, or the one after the first call does.
abbrev pub IsTooLong : BomHandling → Encoding → List ℕ → Type 0
IsTooLong handling e bytes = (first_length handling e bytes ≡ None)
    ⊎ IsTooLongAfterFull handling e bytes

-- Memory is asked for: the input is not empty, and the first length query does not overflow usize.
pub record MayLackMemory (handling : BomHandling) (e : Encoding) (bytes : List ℕ) : Type 0 where
  pub some : bytes ≢ []
  pub length_fits : first_length handling e bytes ≢ None

-- The result of some calls of an encoder without barred characters: the bytes of the whole text are
-- those written and those of the unread text.
pub record HasWritten (e : Encoding) (text unread : List ℕ) (state : EncoderState)
    (wrote : List ℕ) : Type 0 where
  pub encoding : state.encoding ≡ output_encoding_of e
  pub barred : state.barred ≡ []
  pub whole : whole_bytes [] e text ≡ wrote
      ++ bytes_of_text (raw_state state).rule state.set
      (with_references (raw_state state).rule unread)

-- the length query of an encoder for n remaining bytes of UTF-8
abbrev pub length_to_encode : Encoding → ℕ → Option ℕ
length_to_encode e n =
    checked_add (from_utf_8_length (output_lengths e) n) (room_kept_for_references [] e)

-- the same, by the encoder's state
abbrev pub remaining_length : EncoderState → ℕ → Option ℕ
remaining_length v n = checked_add (from_utf_8_length (output_lengths v.encoding) n)
    (room_kept_for_references v.barred v.encoding)

-- a call of an encoder: its room, the number of bytes read, the bytes written, whether a reference
-- is among them, and the state after it
pub record EncoderRound : Type 0 where
  pub room : ℕ
  pub read : ℕ
  pub wrote : List ℕ
  pub replaced : Bool
  pub after : EncoderState

-- A call with the unread text, after `written` bytes, returns `OutputFull`. The length query
-- before it does not overflow usize, and its room is at least that length.
pub record IsFullRound (state : EncoderState) (unread : List ℕ) (written : ℕ)
    (round : EncoderRound) : Type 0 where
  pub length_fits : checked_add (remaining_length state (length unread)) written ≢ None
  pub enough : HasRoomFor (remaining_length state (length unread)) round.room
  pub least : 14 ≤ round.room
  pub call : EncodesChunk encode_utf8 state round.after (record {
    src = chars unread;
    last = true;
    mode = html_mode state;
    room = round.room;
    result = encoder_result.OutputFull;
    read = round.read;
    wrote = round.wrote;
    replaced = round.replaced;
  })

-- These calls are made in turn, each full: the first in this state, with the unread text and after
-- the bytes written that are named first. The last leaves those that are named last.
abbrev pub AreFullRounds : List EncoderRound → EncoderState → List ℕ → List ℕ → EncoderState
    → List ℕ → List ℕ → Type 0
AreFullRounds [] state unread wrote last left all =
    (last ≡ state) × (left ≡ unread) × (all ≡ wrote)
AreFullRounds (round ∷ rounds) state unread wrote last left all =
    IsFullRound state unread (length wrote) round
    × AreFullRounds rounds round.after (drop round.read unread) (wrote ++ round.wrote) last left all

-- For a suffix of the text, in UTF-8, the length query, or its sum with the bytes written,
-- overflows usize. The suffix is the text that full calls have left, from the start of the text on.
pub record IsTooLongToEncode (e : Encoding) (text : List ℕ) : Type 0 where
  pub front : List ℕ
  pub unread : List ℕ
  pub rest : text ≡ front ++ unread
  pub state : EncoderState
  pub wrote : List ℕ
  pub written : HasWritten e (chars text) (chars unread) state wrote
  pub rounds : List EncoderRound
  pub full : AreFullRounds rounds (fresh_encoder [] e) text [] state unread wrote
  pub passes : checked_add (length_to_encode (output_encoding_of e) (length unread)) (length wrote)
      ≡ None

-- Memory is asked for: the text is not empty, and the first length query does not overflow usize.
pub record MayLackMemoryToEncode (e : Encoding) (text : List ℕ) : Type 0 where
  pub some : text ≢ []
  pub length_fits : length_to_encode (output_encoding_of e) (length text) ≢ None
