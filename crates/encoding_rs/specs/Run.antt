-- Runs of a decoder: lists of calls with any error mode, chunk and room (Encoding Standard 4.1,
-- "process a queue", in parts).
use Rattle.std.specs.Prelude.{◌≡◌, ℕ, ◌+◌, ◌-◌, Bool, true, false, ◌||◌, nat_le, List, [], ◌∷◌, ◌++◌, map}
use Rattle.std.specs.Prelude.{length, take, drop, if◌then◌else◌}
use Rattle.std.specs.Char.{encode_utf8}
use Rattle.std.specs.Char.Escape.{encode_utf16}
use Rattle.enc_stream.specs.declared.encoding.Encoding.{Encoding}
use Rattle.enc_stream.specs.declared.bom.BomHandling.{BomHandling}
use Rattle.encoding_rs.specs.declared.run.DecodeCall.{DecodeCall}
use Rattle.enc_output.specs.declared.decoder_result.DecoderResult.{DecoderResult}
use Rattle.enc_output.specs.declared.decoder_result.DecoderResult.TheVariants.{Malformed}
use Rattle.enc_utf8.specs.Text.{AreScalars, units_of_text}
use Rattle.enc_decoder.specs.Sequence.{Sequence, sequence_bytes, sequence_text, any_malformed}
use Rattle.enc_decoder.specs.Call.{decode_error_mode}
use Rattle.enc_stream.specs.Decoding.{DecoderState, fresh_decoder, has_finished, whole_sequences, DecodesChunk}
use Rattle.enc_stream.specs.Faults.{faults_from}
use Rattle.encoding_rs.specs.Runs.{IsRun, all_report, RunPart, done_of_parts, reported_from}

-- the code units that a call decodes to
abbrev pub units_of_call : Bool → ℕ → List ℕ
units_of_call utf16 = if utf16 then encode_utf16 else encode_utf8

-- whether a call has reported a malformed sequence
abbrev pub is_malformed_result : DecoderResult → Bool
is_malformed_result (Malformed l a) = true
is_malformed_result _ = false

-- the text that a run puts in the place of a malformed sequence
abbrev pub replacement_text : DecoderResult → List ℕ
replacement_text (Malformed l a) = 0xFFFD ∷ []
replacement_text _ = []

-- The offset in the whole input, and the length, of a malformed sequence reported when `read` bytes
-- are read: the l bytes before the last a.
abbrev pub fault_of_result : DecoderResult → ℕ → List (ℕ × ℕ)
fault_of_result (Malformed l a) read = (read - a - l, l) ∷ []
fault_of_result _ read = []

-- A call with these bytes, and the text that it has written, in UTF-8.
pub record AnswersDecodeCall (units_of : ℕ → List ℕ) (call : DecodeCall) (old new : DecoderState)
    (chunk : List ℕ) (last : Bool) (result : DecoderResult) (read : ℕ) (replaced : Bool)
    (utf_8 : List ℕ) : Type 0 where
  pub text : List ℕ
  pub scalars : AreScalars text
  pub is : utf_8 ≡ units_of_text encode_utf8 text
  pub decodes : DecodesChunk units_of old new (record {
    src = chunk;
    last = last;
    mode = decode_error_mode call.replace;
    room = call.room;
    result = result;
    read = read;
    wrote = units_of_text units_of text;
    replaced = replaced;
  })

-- A call of a run: it gets the unread bytes, at most `offer` of them, and `last` exactly if that is
-- all of them. Its text is appended, and U+FFFD for a malformed sequence that it has reported.
pub record MakesDecodeCall (call : DecodeCall) (old new : DecoderState)
    (unread before after : List ℕ) (result : DecoderResult) (read : ℕ)
    (replaced : Bool) : Type 0 where
  pub wrote : List ℕ
  pub answers : AnswersDecodeCall (units_of_call call.utf16) call old new (take call.offer unread)
      (nat_le (length unread) call.offer) result read replaced wrote
  pub text : after ≡ (before ++ wrote) ++ units_of_text encode_utf8 (replacement_text result)

-- the state of a run: the decoder, the number of bytes read, the text in UTF-8, the offset and
-- length of each malformed sequence reported, and whether a sequence was malformed
pub record DecodeRunState : Type 0 where
  pub decoder : DecoderState
  pub read : ℕ
  pub text : List ℕ
  pub faults : List (ℕ × ℕ)
  pub had_errors : Bool

-- a run that has made no call
abbrev pub decode_run_start : BomHandling → Encoding → DecodeRunState
decode_run_start handling e =
    record {
      decoder = fresh_decoder handling e;
      read = 0;
      text = [];
      faults = [];
      had_errors = false;
    }

-- a run advances by one call, unless its decoder is finished
pub record DecodeRunAdvances (bytes : List ℕ) (made : DecodeCall)
    (old new : DecodeRunState) : Type 0 where
  pub result : DecoderResult
  pub more : ℕ
  pub replaced : Bool
  pub not_finished : has_finished old.decoder ≡ false
  pub call : MakesDecodeCall made old.decoder new.decoder (drop old.read bytes) old.text new.text
      result more replaced
  pub read : new.read ≡ old.read + more
  pub faults : new.faults ≡ old.faults ++ fault_of_result result new.read
  pub flag : new.had_errors ≡ (old.had_errors || (replaced || is_malformed_result result))

-- these calls, in turn, lead from one state to the other
abbrev pub IsDecodeRun : List ℕ → List DecodeCall → DecodeRunState → DecodeRunState → Type 0
IsDecodeRun bytes = IsRun (DecodeRunAdvances bytes)

-- whether all calls report malformed sequences
abbrev pub all_report_malformed : List DecodeCall → Bool
all_report_malformed = all_report (λ (c : DecodeCall). c.replace)

-- the offset and length of each malformed sequence that these parts report
abbrev pub reported_faults : List (RunPart Sequence) → List (ℕ × ℕ)
reported_faults = reported_from faults_from (λ ss. length (sequence_bytes ss)) 0

-- The result of some calls: each has done a part of the sequences of the whole input, from the
-- first on. A finished run has done all of them, skipped ones included.
pub record HasRunDecoding (handling : BomHandling) (e : Encoding) (bytes : List ℕ)
    (calls : List DecodeCall) (text : List ℕ) (faults : List (ℕ × ℕ))
    (had_errors ended : Bool) : Type 0 where
  pub parts : List (RunPart Sequence)
  pub rest : List Sequence
  pub sequences : whole_sequences handling e bytes ≡ done_of_parts parts ++ rest
  pub all : ended ≡ true → rest ≡ []
  pub calls_are : map (λ (p : RunPart Sequence). p.replaces) parts
      ≡ map (λ (c : DecodeCall). c.replace) calls
  pub text_of_done : text ≡ units_of_text encode_utf8 (sequence_text (done_of_parts parts))
  -- the malformed sequences met by calls that report them, in order and at their offsets in the
  -- whole input
  pub reported : faults ≡ reported_faults parts
  pub flag : had_errors ≡ any_malformed (done_of_parts parts)
