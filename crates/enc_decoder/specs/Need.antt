-- The room that a call needs, and which lengths are enough (Encoding Standard 4.1, "process a
-- queue", with a bounded output).
use Rattle.std.specs.Prelude.{◌≡◌, ◌↔◌, ℕ, ◌+◌, ◌<◌, ◌≤◌, Bool, Option, Some, List, [], ◌∷◌, length}
use Rattle.std.specs.Prelude.{drop, if◌then◌else◌}
use Rattle.enc_output.specs.declared.decoder_result.DecoderResult.{DecoderResult}
use Rattle.enc_output.specs.declared.decoder_result.DecoderResult.TheVariants.{InputEmpty, OutputFull}
use Rattle.enc_output.specs.declared.decoder_result.DecoderResult.TheVariants as stop
use Rattle.enc_decoder.specs.declared.text_lengths.TextLengths.{TextLengths}
use Rattle.std.specs.Char.{encode_utf8}
use Rattle.std.specs.Char.Escape.{encode_utf16}
use Rattle.enc_utf8.specs.Text.{units_of_text}
use Rattle.enc_decoder.specs.Sequence.{Sequence, is_malformed, sequence_text}
use Rattle.enc_decoder.specs.Remainder.{Remainder, AreBytes, AreDetermined}
use Rattle.enc_decoder.specs.CodecState.{CodecState, remainder_of}
use Rattle.enc_decoder.specs.Lengths.{utf_8_length, reporting_length, utf_16_length}
use Rattle.enc_decoder.specs.declared.error_mode.ErrorMode.{ErrorMode}
use Rattle.enc_decoder.specs.declared.error_mode.ErrorMode.TheVariants.{Replacement, Fatal}
use Rattle.enc_decoder.specs.CallRecord.{Call}

-- the sequences before the first malformed one
abbrev pub sequences_before_malformed : List Sequence → List Sequence
sequences_before_malformed [] = []
sequences_before_malformed (s ∷ ss) =
    if is_malformed s.kind then [] else s ∷ sequences_before_malformed ss

-- the sequences that a call needs room for: all, or those before the first that it reports
abbrev pub needed_sequences : ErrorMode → List Sequence → List Sequence
needed_sequences Replacement ss = ss
needed_sequences Fatal ss = sequences_before_malformed ss

-- the number of their code units
abbrev pub needed_units : (ℕ → List ℕ) → ErrorMode → List Sequence → ℕ
needed_units units_of mode ss =
    length (units_of_text units_of (sequence_text (needed_sequences mode ss)))

-- The need of a call is the number of code units of its determined sequences. It exceeds n: these
-- sequences have more.
pub record NeedExceeds (units_of : ℕ → List ℕ) (mode : ErrorMode) (old : Remainder)
    (src : List ℕ) (last : Bool) (n : ℕ) : Type 0 where
  pub sequences : List Sequence
  pub determined : AreDetermined last old.sequences src sequences
  pub more : n < needed_units units_of mode sequences

-- After a call the remaining need exceeds n: that of the unread bytes. Once a sequence is reported
-- nothing more is needed.
abbrev pub RemainingNeedExceeds : (ℕ → List ℕ) → Remainder → Call → DecoderResult → ℕ → Type 0
RemainingNeedExceeds units_of new c InputEmpty n =
    NeedExceeds units_of c.mode new (drop c.read c.src) c.last n
RemainingNeedExceeds units_of new c OutputFull n =
    NeedExceeds units_of c.mode new (drop c.read c.src) c.last n
RemainingNeedExceeds units_of new c (stop.Malformed l a) n = ⊥

-- The output is full exactly if the need exceeds the room. The need before a call is what it wrote
-- and the remaining need.
pub record MeetsDecodeNeed (units_of : ℕ → List ℕ) (old new : Remainder) (c : Call) : Type 0 where
  pub full : (c.result ≡ OutputFull) ↔ NeedExceeds units_of c.mode old c.src c.last c.room
  pub reaches : (n : ℕ) → n < length c.wrote → NeedExceeds units_of c.mode old c.src c.last n
  pub left : (n : ℕ) → NeedExceeds units_of c.mode old c.src c.last (length c.wrote + n)
      ↔ RemainingNeedExceeds units_of new c c.result n

-- A length, by the number of bytes given and of bytes pending, is enough for calls of this kind: no
-- need exceeds it.
abbrev pub IsEnoughForCodec : (ℕ → List ℕ) → ErrorMode → (ℕ → ℕ → Option ℕ) → CodecState
    → Type 0
IsEnoughForCodec units_of mode length_of v =
    (src : List ℕ) (last : Bool) (n : ℕ) → AreBytes src
    → length_of (length src) (length v.pending) ≡ Some n
    → NeedExceeds units_of mode (remainder_of v) src last n → ⊥

-- The lengths of these formulas are enough in this state, for calls of each kind.
pub record AreEnoughForCodec (formulas : TextLengths) (v : CodecState) : Type 0 where
  pub utf_8 : IsEnoughForCodec encode_utf8 Replacement (utf_8_length formulas) v
  pub reporting : IsEnoughForCodec encode_utf8 Fatal (reporting_length formulas) v
  pub utf_16 : (mode : ErrorMode)
      → IsEnoughForCodec encode_utf16 mode (utf_16_length formulas) v

-- A text of at most three code units of UTF-8 and one of UTF-16, as a character of the Basic
-- Multilingual Plane. The formulas have that for each byte.
pub record IsBmpText (text : List ℕ) : Type 0 where
  pub utf_8 : length (units_of_text encode_utf8 text) ≤ 3
  pub utf_16 : length (units_of_text encode_utf16 text) ≤ 1
