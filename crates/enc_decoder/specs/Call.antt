-- A call of a decoder: its text, and where reading stops (Encoding Standard 4.1, "process a queue",
-- with a bounded output).
--
-- Two calls in Shift_JIS into UTF-8, with 4 bytes of room, without replacement, and `last` false:
--
--     src       41 | 93 FA | 81 42 | 61      "A", U+65E5, U+3002, "a"
--     done      ==========                   "A" and U+65E5, whose 1 + 3 bytes fill the room
--     pending                ==              read; 81 alone determines no sequence
--     unread                    ==   ==      42 would determine U+3002, which does not fit
--
-- OutputFull, read = 4: reading stops one byte short of the shortest prefix that determines the
-- next sequence.
--
--     src       41 | 81 | 20                 "A", a malformed sequence, a space
--     put       ==                           "A"
--     reported       ==                      20 determines that 81 is malformed
--     unread              ==                 20 is a sequence by itself
--
-- Malformed(1, 0), read = 2: a malformed sequence of 1 byte, and 0 bytes read after it.
use Rattle.std.specs.Prelude.{◌≡◌, ℕ, ◌+◌, ◌-◌, ◌<◌, ◌≤◌, ◌⊎◌, Bool, true, false, List, [], ◌∷◌, ◌++◌, length, take}
use Rattle.std.specs.Prelude.{drop, if◌then◌else◌}
use Rattle.enc_output.specs.declared.decoder_result.DecoderResult.{DecoderResult}
use Rattle.enc_output.specs.declared.decoder_result.DecoderResult.TheVariants.{InputEmpty, OutputFull}
use Rattle.enc_output.specs.declared.decoder_result.DecoderResult.TheVariants as stop
use Rattle.enc_decoder.specs.declared.error_mode.ErrorMode.{ErrorMode}
use Rattle.enc_decoder.specs.declared.error_mode.ErrorMode.TheVariants.{Replacement, Fatal}
use Rattle.enc_decoder.specs.declared.byte_codec.Kind.{Kind}
use Rattle.enc_decoder.specs.declared.byte_codec.Kind.TheVariants.{RepeatedEscape}
use Rattle.enc_output.specs.Output.{with_appended}
use Rattle.enc_utf8.specs.Text.{AreScalars, units_of_text}
use Rattle.enc_decoder.specs.Sequence.{Sequence, is_malformed, is_repeated_escape, sequence_bytes, sequence_text}
use Rattle.enc_decoder.specs.Sequence.{any_malformed, set_after}
use Rattle.enc_decoder.specs.Remainder.{Remainder, AreFirstSequences, Determines, AreDetermined}
use Rattle.enc_decoder.specs.CallRecord.{Call, CallInto, call_writing}
use Rattle.enc_decoder.specs.CodecState.{CodecState, remainder_of}

-- whether malformed sequences are replaced
abbrev pub is_replacement_mode : ErrorMode → Bool
is_replacement_mode Replacement = true
is_replacement_mode Fatal = false

-- the error mode, by that
abbrev pub decode_error_mode : Bool → ErrorMode
decode_error_mode replace = if replace then Replacement else Fatal

-- whether a call stops at a sequence of this kind and reports it
abbrev pub reports : ErrorMode → Kind → Bool
reports Replacement kind = false
reports Fatal kind = is_malformed kind

-- The bytes read before a sequence that is not put out: one byte less than the shortest prefix that
-- determines it and all before it, but at least 0. If only the end of the input determines it, all
-- bytes.
pub record ReadsBeforeSequence (remaining : List ℕ → List Sequence) (src : List ℕ)
    (sequences : List Sequence) (read : ℕ) : Type 0 where
  pub not_shown : (read ≡ 0) ⊎ (Determines remaining (take read src) sequences → ⊥)
  pub shown_next : read < length src → Determines remaining (take (read + 1) src) sequences

-- The bytes read if a malformed sequence is reported: the same, or to its end if that is further.
-- Then no byte is pending after it.
pub record ReadsToMalformed (remaining : List ℕ → List Sequence) (src : List ℕ)
    (sequences : List Sequence) (read : ℕ) (pending : List ℕ) : Type 0 where
  pub not_shown : (pending ≡ [])
      ⊎ ((read ≡ 0) ⊎ (Determines remaining (take read src) sequences → ⊥))
  pub shown_next : read < length src → Determines remaining (take (read + 1) src) sequences

-- The bytes read if a repeated escape is reported: exactly those that determine it.
pub record ReadsThroughEscape (remaining : List ℕ → List Sequence) (src : List ℕ)
    (sequences : List Sequence) (read : ℕ) : Type 0 where
  pub not_shown : (read ≡ 0) ⊎ (Determines remaining (take (read - 1) src) sequences → ⊥)
  pub shown : Determines remaining (take read src) sequences

-- the bytes read if a sequence is reported, by whether it is a repeated escape
abbrev pub ReadsToReported : Bool → (List ℕ → List Sequence) → List ℕ → List Sequence → ℕ → List ℕ
    → Type 0
ReadsToReported true remaining src ss read pending = ReadsThroughEscape remaining src ss read
ReadsToReported false remaining src ss read pending = ReadsToMalformed remaining src ss read pending

-- bounds of the length of a malformed sequence, and of the number of bytes read after it
abbrev pub AreMalformedLens : ℕ → ℕ → Type 0
AreMalformedLens l a = (l ≤ 4) × (a ≤ 3) × (l + a ≤ 6)

-- the same, and the exact lengths of a repeated escape
abbrev pub AreReportedLens : Kind → ℕ → ℕ → Type 0
AreReportedLens RepeatedEscape l a = (l ≡ 3) × (a ≡ 3)
AreReportedLens _ l a = AreMalformedLens l a

-- All input is read, and no determined sequence is left.
pub record DecoderAtInputEmpty (old new : Remainder) (c : Call)
    (put done : List Sequence) : Type 0 where
  pub only_put : done ≡ put
  pub all_read : c.read ≡ length c.src
  pub none_determined : c.last ≡ false → (s : Sequence)
      → Determines old.sequences c.src (done ++ s ∷ []) → ⊥
  pub none_left : c.last ≡ true → new.sequences [] ≡ []
  pub none_pending : c.last ≡ true → new.pending ≡ []

-- The next sequence is determined, and its text does not fit.
pub record DecoderAtOutputFull (units_of : ℕ → List ℕ) (old : Remainder) (c : Call)
    (put done : List Sequence) : Type 0 where
  pub only_put : done ≡ put
  pub next : Sequence
  pub determined : AreDetermined c.last old.sequences c.src (done ++ next ∷ [])
  pub not_reported : is_replacement_mode c.mode ≡ false → is_malformed next.kind ≡ false
  pub full : c.room < length (units_of_text units_of (sequence_text done))
      + length (units_of_text units_of next.text)
  pub reads : ReadsBeforeSequence old.sequences c.src (done ++ next ∷ []) c.read

-- The next sequence is determined and malformed, has l bytes, and a bytes are pending after it. So
-- it is the l bytes before the last a of all bytes read so far.
pub record AtMalformed (old new : Remainder) (c : Call) (put done : List Sequence)
    (l a : ℕ) : Type 0 where
  pub next : Sequence
  pub then_next : done ≡ put ++ next ∷ []
  pub malformed : is_malformed next.kind ≡ true
  pub replacement : next.text ≡ 0xFFFD ∷ []
  pub not_replaced : is_replacement_mode c.mode ≡ false
  pub len : l ≡ length next.bytes
  pub not_empty : 0 < l
  pub pending : a ≡ length new.pending
  pub bounds : AreReportedLens next.kind l a
  pub determined : AreDetermined c.last old.sequences c.src done
  -- the bytes read determine no sequence after it
  pub none_after : (c.read ≡ 0)
      ⊎ ((s : Sequence) → Determines old.sequences (take c.read c.src) (done ++ s ∷ []) → ⊥)
  pub reads : ReadsToReported (is_repeated_escape next.kind) old.sequences c.src done c.read
      new.pending

-- why a call stopped
abbrev pub DecoderStops : (ℕ → List ℕ) → Remainder → Remainder → Call → List Sequence
    → List Sequence → DecoderResult → Type 0
DecoderStops units_of old new c put done InputEmpty = DecoderAtInputEmpty old new c put done
DecoderStops units_of old new c put done OutputFull =
    DecoderAtOutputFull units_of old c put done
DecoderStops units_of old new c put done (stop.Malformed l a) = AtMalformed old new c put done l a

-- whether a call has reached the end of the input
abbrev pub reaches_end : Bool → DecoderResult → Bool
reaches_end last InputEmpty = last
reaches_end last _ = false

-- the same result, if `held` bytes more are held after those of a codec
abbrev pub shifted_result : DecoderResult → ℕ → DecoderResult
shifted_result InputEmpty held = InputEmpty
shifted_result OutputFull held = OutputFull
shifted_result (stop.Malformed l a) held = stop.Malformed l (a + held)

-- A call of a decoder. It takes the sequences that it puts out, and the one that it reports, from
-- those remaining, and nothing else.
pub record IsCall (units_of : ℕ → List ℕ) (old new : Remainder) (c : Call) : Type 0 where
  pub put : List Sequence
  pub done : List Sequence
  pub within : c.read ≤ length c.src
  -- whatever follows the chunk
  pub residual : (z : List ℕ) → (c.last ≡ true → z ≡ [])
      → old.sequences (c.src ++ z) ≡ done ++ new.sequences (drop c.read c.src ++ z)
  pub set : new.set ≡ set_after old.set done
  pub text : c.wrote ≡ units_of_text units_of (sequence_text put)
  pub scalars : AreScalars (sequence_text put)
  pub fits : length c.wrote ≤ c.room
  pub flag : c.replaced ≡ any_malformed put
  pub none_replaced : is_replacement_mode c.mode ≡ false → c.replaced ≡ false
  pub stops : DecoderStops units_of old new c put done c.result

-- A call of a decoder that looks for no byte order mark: all bytes are in sequences.
pub record IsRawCall (units_of : ℕ → List ℕ) (old new : Remainder) (c : Call) : Type 0 where
  pub call : IsCall units_of old new c
  -- The bytes read are those of the sequences done and those pending.
  pub accounted : old.pending ++ take c.read c.src ≡ sequence_bytes call.done ++ new.pending
  -- Wherever the sequences done come first after the bytes read, those of the new state follow.
  pub goes_on : (y : List ℕ) → (reaches_end c.last c.result ≡ true → y ≡ [])
      → AreFirstSequences call.done (old.sequences (take c.read c.src ++ y))
      → old.sequences (take c.read c.src ++ y) ≡ call.done ++ new.sequences y

-- the same, for a call that appends what it writes to an output
pub record IsCallInto (units_of : ℕ → List ℕ) (old new : Remainder) (c : CallInto) : Type 0 where
  pub wrote : List ℕ
  pub onto : c.after ≡ with_appended c.before wrote
  pub call : IsRawCall units_of old new (call_writing c wrote)

-- the same, of a codec, whose rule stays
pub record IsCodecCall (units_of : ℕ → List ℕ) (old new : CodecState)
    (c : CallInto) : Type 0 where
  pub call : IsCallInto units_of (remainder_of old) (remainder_of new) c
  pub rule : new.rule ≡ old.rule
