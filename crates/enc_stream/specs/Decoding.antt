-- Decoders: texts of whole inputs, and single calls (Encoding Standard 4.1, "process a queue"; 6,
-- "decode", "UTF-8 decode" and "UTF-8 decode without BOM", for any encoding).
use Rattle.std.specs.Prelude.{◌≡◌, ℕ, ◌+◌, ◌-◌, ◌<◌, ◌≤◌, ◌==◌, Bool, true, false, ◌&&◌, List, [], ◌∷◌, ◌++◌, length}
use Rattle.std.specs.Prelude.{take, if◌then◌else◌}
use Rattle.std.specs.Char.{encode_utf8}
use Rattle.enc_output.specs.Results.{decoder_result_of}
use Rattle.enc_output.specs.declared.decoder_result.DecoderResult.{DecoderResult}
use Rattle.enc_output.specs.declared.decoder_result.DecoderResult.TheVariants as raw
use Rattle.enc_utf8.specs.declared.coder_result.CoderResult.{CoderResult}
use Rattle.enc_stream.specs.declared.encoding.Encoding.{Encoding}
use Rattle.enc_stream.specs.declared.bom.BomHandling.{BomHandling}
use Rattle.enc_output.specs.Output.{with_appended}
use Rattle.enc_utf8.specs.Text.{units_of_text}
use Rattle.enc_decoder.specs.Sequence.{Sequence, sequence_bytes, sequence_text, any_malformed, set_after}
use Rattle.enc_decoder.specs.Remainder.{Remainder, AreFirstSequences}
use Rattle.enc_decoder.specs.declared.error_mode.ErrorMode.TheVariants.{Replacement, Fatal}
use Rattle.enc_decoder.specs.Call.{IsCall, reaches_end}
use Rattle.enc_decoder.specs.CallRecord.{Call, CallInto, call_writing}
use Rattle.enc_decoder.specs.Need.{MeetsDecodeNeed}
use Rattle.enc_decoder.specs.RuleLaws.{HasTexts, IsSmallText}
use Rattle.enc_stream.specs.Encodings.{rule_of}
use Rattle.enc_stream.specs.Bom.{Mark, marks_looked_for, marks_begun, any_mark, find_mark, sequences_by_mark}
use Rattle.enc_stream.specs.Bom.{mark_sequences, encoding_of_mark_or}

-- The sequences of a whole input. A byte order mark that is looked for is the first of them.
abbrev pub whole_sequences : BomHandling → Encoding → List ℕ → List Sequence
whole_sequences handling e bytes =
    sequences_by_mark (find_mark (marks_looked_for handling e) bytes) e 0 bytes

-- the encoding of a whole input: that of its byte order mark, or else this one
abbrev pub whole_encoding : BomHandling → Encoding → List ℕ → Encoding
whole_encoding handling e bytes =
    encoding_of_mark_or (find_mark (marks_looked_for handling e) bytes) e

-- The text of a whole input, in UTF-8. Every way to decode the input gives this text.
abbrev pub whole_utf_8 : BomHandling → Encoding → List ℕ → List ℕ
whole_utf_8 handling e bytes =
    units_of_text encode_utf8 (sequence_text (whole_sequences handling e bytes))

-- whether a sequence of a whole input is malformed
abbrev pub whole_malformed : BomHandling → Encoding → List ℕ → Bool
whole_malformed handling e bytes = any_malformed (whole_sequences handling e bytes)

-- A decoder as its caller knows it: its encoding, the byte order marks that may still come, the
-- designated character set, the pending bytes (read, and their sequence not yet put out), whether
-- these are held as those of a byte order mark, and whether the end of the input is reached.
pub record DecoderState : Type 0 where
  pub encoding : Encoding
  pub marks : List Mark
  pub set : ℕ
  pub pending : List ℕ
  pub held : Bool
  pub finished : Bool

-- whether the end of the input is reached
abbrev pub has_finished : DecoderState → Bool
has_finished d = d.finished

-- a decoder that has read nothing
abbrev pub fresh_decoder : BomHandling → Encoding → DecoderState
fresh_decoder handling e = record {
  encoding = e;
  marks = marks_looked_for handling e;
  set = 0;
  pending = [];
  held = false;
  finished = false;
}

-- The sequences still to come out if exactly the bytes y follow: those of the pending bytes and y.
-- A byte order mark that may come is the first of them. After the end there are none.
abbrev pub remaining_sequences : DecoderState → List ℕ → List Sequence
remaining_sequences d y = if d.finished then []
    else sequences_by_mark (find_mark d.marks (d.pending ++ y)) d.encoding d.set (d.pending ++ y)

-- the remainder of a decoder
abbrev pub decoder_remainder : DecoderState → Remainder
decoder_remainder d = record { pending = d.pending; set = d.set; sequences = remaining_sequences d }

-- The byte order marks that may still come after a call: none at the end, or once a sequence is
-- done, and else those that the pending bytes begin.
abbrev pub marks_after : List Mark → Bool → List Sequence → List ℕ → List Mark
marks_after marks false [] pending = marks_begun marks pending
marks_after marks end done pending = []

-- Whether the bytes left pending by a call are held as those of a byte order mark: all bytes so far
-- begin one, or they were held before and the call has read nothing.
abbrev pub are_still_held : Bool → List Mark → List ℕ → ℕ → Bool
are_still_held held [] so_far read = held && (read == 0)
are_still_held held (m ∷ marks) so_far read = any_mark (marks_begun (m ∷ marks) so_far)

abbrev pub held_after : Bool → List ℕ → Bool
held_after still_held [] = false
held_after still_held (b ∷ pending) = still_held

-- A call of a decoder, into an output of `room` code units.
pub record DecodesChunk (units_of : ℕ → List ℕ) (old new : DecoderState) (c : Call)
    : Type 0 where
  pub call : IsCall units_of (decoder_remainder old) (decoder_remainder new) c
  -- The bytes read are those of the sequences done and those pending.
  pub accounted : old.pending ++ take c.read c.src ≡ sequence_bytes call.done ++ new.pending
  -- Wherever the sequences done come first after the bytes read, those of the new state follow.
  pub goes_on : (y : List ℕ) → (reaches_end c.last c.result ≡ true → y ≡ [])
      → AreFirstSequences call.done (remaining_sequences old (take c.read c.src ++ y))
      → remaining_sequences old (take c.read c.src ++ y) ≡ call.done ++ remaining_sequences new y
  -- A byte order mark that is read is the first sequence done. It designates the encoding.
  pub mark : AreFirstSequences
      (mark_sequences (find_mark old.marks (old.pending ++ take c.read c.src))) call.done
  pub encoding : new.encoding
      ≡ encoding_of_mark_or (find_mark old.marks (old.pending ++ take c.read c.src)) old.encoding
  pub marks : new.marks
      ≡ marks_after old.marks (reaches_end c.last c.result) call.done new.pending
  pub held : new.held ≡ held_after
      (are_still_held old.held old.marks (old.pending ++ take c.read c.src) c.read) new.pending
  pub finished : new.finished ≡ reaches_end c.last c.result

-- the same, for a call that appends what it writes to an output
pub record DecodesInto (units_of : ℕ → List ℕ) (old new : DecoderState)
    (c : CallInto) : Type 0 where
  pub wrote : List ℕ
  pub onto : c.after ≡ with_appended c.before wrote
  pub decodes : DecodesChunk units_of old new (call_writing c wrote)

-- A call with replacement, by its values one by one.
abbrev pub replacing_call : List ℕ → Bool → ℕ → CoderResult → ℕ → List ℕ → Bool → Call
replacing_call src last room result read wrote replaced = record {
  src = src;
  last = last;
  mode = Replacement;
  room = room;
  result = decoder_result_of result;
  read = read;
  wrote = wrote;
  replaced = replaced;
}

-- A call without replacement, by its values one by one.
abbrev pub reporting_call : List ℕ → Bool → ℕ → DecoderResult → ℕ → List ℕ → Call
reporting_call src last room result read wrote = record {
  src = src;
  last = last;
  mode = Fatal;
  room = room;
  result = result;
  read = read;
  wrote = wrote;
  replaced = false;
}

-- A decoder that has read nothing of src is unchanged, except that it may drop pending sequences
-- without a text (escape sequences): src shows that they are skipped.
pub record IsUnchangedButSkips (src : List ℕ) (last : Bool) (old new : DecoderState) : Type 0 where
  pub skipped : List Sequence
  pub no_text : sequence_text skipped ≡ []
  pub come_first : (z : List ℕ) → (last ≡ true → z ≡ [])
      → remaining_sequences old (src ++ z) ≡ skipped ++ remaining_sequences new (src ++ z)
  pub pending : old.pending ≡ sequence_bytes skipped ++ new.pending
  pub set : new.set ≡ set_after old.set skipped
  pub encoding : new.encoding ≡ old.encoding
  pub unfinished : has_finished new ≡ false
  pub same : skipped ≡ [] → new ≡ old

-- `least` code units hold any small text.
abbrev pub TakesSmallTexts : (ℕ → List ℕ) → ℕ → Type 0
TakesSmallTexts units_of least = (text : List ℕ) → IsSmallText text
    → length (units_of_text units_of text) ≤ least

-- Fewer bytes are pending or unread after a call than were pending or given before it.
abbrev pub LeavesFewerBytes : DecoderState → DecoderState → List ℕ → ℕ → Type 0
LeavesFewerBytes old new src read =
    length new.pending + (length src - read) < length old.pending + length src

-- A malformed sequence that a call reports, and the bytes read after it, are among the bytes that
-- were pending before the call and those that it has read.
abbrev pub ReportsBytesSoFar : DecoderState → DecoderResult → ℕ → Type 0
ReportsBytesSoFar old result read = (l a : ℕ) → result ≡ raw.Malformed l a
    → l + a ≤ length old.pending + read

-- A call of a decoder, for any output. `least` code units hold the text of any sequence.
pub record AnswersDecode (units_of : ℕ → List ℕ) (least : ℕ) (old new : DecoderState) (c : Call)
    : Type 0 where
  pub decodes : DecodesChunk units_of old new c
  -- The output is full exactly if the call needs more than its room.
  pub need : MeetsDecodeNeed units_of (decoder_remainder old) (decoder_remainder new) c
  -- If it is full, with nothing read and nothing written, the decoder is unchanged, except for
  -- pending escape sequences that are now skipped. In an encoding without these it is unchanged.
  pub unchanged : c.result ≡ raw.OutputFull → c.read ≡ 0 → c.wrote ≡ []
      → IsUnchangedButSkips c.src c.last old new
  pub same : c.result ≡ raw.OutputFull → c.read ≡ 0 → c.wrote ≡ [] → HasTexts (rule_of old.encoding)
      → new ≡ old
  -- With `least` code units of room, a call makes progress.
  pub progress : (c.result ≡ raw.InputEmpty → ⊥) → least ≤ c.room
      → LeavesFewerBytes old new c.src c.read

-- the same, for a call that appends what it writes to an output
pub record AnswersDecodeInto (units_of : ℕ → List ℕ) (old new : DecoderState)
    (c : CallInto) : Type 0 where
  pub wrote : List ℕ
  pub onto : c.after ≡ with_appended c.before wrote
  pub converts : (least : ℕ) → TakesSmallTexts units_of least
      → AnswersDecode units_of least old new (call_writing c wrote)

-- The result of some calls of an encoding's decoder: of the bytes given so far, `unread` remain. If
-- `ended`, nothing follows them.
pub record HasDecoded (handling : BomHandling) (e : Encoding) (bytes unread : List ℕ) (ended : Bool)
    (state : DecoderState) (wrote : List ℕ) (replaced : Bool) : Type 0 where
  pub done : List Sequence
  -- The sequences of the whole input are those done and those remaining.
  pub whole : (z : List ℕ) → (ended ≡ true → z ≡ [])
      → whole_sequences handling e (bytes ++ z) ≡ done ++ remaining_sequences state (unread ++ z)
  pub text : wrote ≡ units_of_text encode_utf8 (sequence_text done)
  pub flag : replaced ≡ any_malformed done
