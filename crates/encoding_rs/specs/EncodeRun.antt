-- Runs of an encoder: lists of calls with any error mode, chunk and room (Encoding Standard 4.1,
-- "process a queue", in parts).
use Rattle.std.specs.Prelude.{◌≡◌, ℕ, ◌+◌, Bool, true, false, ◌&&◌, ◌||◌, nat_le, List, [], ◌∷◌, ◌++◌, map, length}
use Rattle.std.specs.Prelude.{take, drop, if◌then◌else◌}
use Rattle.enc_stream.specs.declared.encoding.Encoding.{Encoding}
use Rattle.encoding_rs.specs.declared.encode_run.EncodeCall.{EncodeCall}
use Rattle.enc_input.specs.declared.encoder_result.EncoderResult.{EncoderResult}
use Rattle.enc_input.specs.declared.encoder_result.EncoderResult.TheVariants.{InputEmpty, Unmappable}
use Rattle.enc_encoder.specs.EncoderRule.{EncoderRule}
use Rattle.enc_encoder.specs.Steps.{step_chars}
use Rattle.enc_encoder.specs.Text.{reference_after}
use Rattle.enc_encoder.specs.ErrorMode.{EncodeErrorMode, Fatal}
use Rattle.enc_encoder.specs.Unmappable.{any_unmappable, reports_of}
use Rattle.enc_stream.specs.Encodings.{output_rule}
use Rattle.enc_stream.specs.Encoder.{EncoderState, fresh_encoder, html_mode, whole_bytes, EncodesChunk}
use Rattle.encoding_rs.specs.Run.{units_of_call}
use Rattle.encoding_rs.specs.Runs.{IsRun, all_report, RunPart, done_of_parts, reported_from}

-- the error mode of a call
abbrev pub encode_error_mode : Bool → EncoderState → EncodeErrorMode
encode_error_mode replace v = if replace then html_mode v else Fatal

-- the character that a call has reported
abbrev pub reported_character : EncoderResult → List ℕ
reported_character (Unmappable c) = c ∷ []
reported_character _ = []

-- whether a call has reported an unmappable character
abbrev pub is_unmappable_result : EncoderResult → Bool
is_unmappable_result (Unmappable c) = true
is_unmappable_result _ = false

-- whether a call has read all of its input
abbrev pub is_input_empty_result : EncoderResult → Bool
is_input_empty_result InputEmpty = true
is_input_empty_result _ = false

-- A call of a run: it gets the unread characters, at most `offer` of them, and `last` exactly if
-- that is all of them. Its bytes are appended, and the reference to a character that it has
-- reported.
pub record MakesEncodeCall (call : EncodeCall) (old new : EncoderState)
    (unread before after : List ℕ) (result : EncoderResult) (read : ℕ)
    (replaced : Bool) : Type 0 where
  pub wrote : List ℕ
  pub units : ℕ
  pub encodes : EncodesChunk (units_of_call call.utf16) old new (record {
    src = take call.offer unread;
    last = nat_le (length unread) call.offer;
    mode = encode_error_mode call.replace old;
    room = call.room;
    result = result;
    read = units;
    wrote = wrote;
    replaced = replaced;
  })
  pub chars : read ≡ length (step_chars encodes.call.done)
  pub bytes : after ≡ before ++ (wrote ++ reference_after result)

-- the state of a run: the encoder, the number of characters read, the bytes, the characters
-- reported, whether a character was unmappable, and whether the end is reached
pub record EncodeRunState : Type 0 where
  pub encoder : EncoderState
  pub read : ℕ
  pub bytes : List ℕ
  pub unmappables : List ℕ
  pub had_unmappables : Bool
  pub finished : Bool

-- a run that has made no call
abbrev pub encode_run_start : List ℕ → Encoding → EncodeRunState
encode_run_start b e =
    record {
      encoder = fresh_encoder b e;
      read = 0;
      bytes = [];
      unmappables = [];
      had_unmappables = false;
      finished = false;
    }

-- a run advances by one call, unless it is at the end
pub record EncodeRunAdvances (text : List ℕ) (made : EncodeCall)
    (old new : EncodeRunState) : Type 0 where
  pub result : EncoderResult
  pub more : ℕ
  pub replaced : Bool
  pub not_finished : old.finished ≡ false
  pub call : MakesEncodeCall made old.encoder new.encoder (drop old.read text) old.bytes new.bytes
      result more replaced
  pub read : new.read ≡ old.read + more
  pub unmappables : new.unmappables ≡ old.unmappables ++ reported_character result
  pub flag : new.had_unmappables
      ≡ (old.had_unmappables || (replaced || is_unmappable_result result))
  pub finished : new.finished
      ≡ (nat_le (length (drop old.read text)) made.offer && is_input_empty_result result)

-- these calls, in turn, lead from one state to the other
abbrev pub IsEncodeRun : List ℕ → List EncodeCall → EncodeRunState → EncodeRunState → Type 0
IsEncodeRun text = IsRun (EncodeRunAdvances text)

-- whether all calls report unmappable characters
abbrev pub all_report_unmappable : List EncodeCall → Bool
all_report_unmappable = all_report (λ (c : EncodeCall). c.replace)

-- the unmappable characters that these parts of a text report
abbrev pub reported_characters : EncoderRule → List (RunPart ℕ) → List ℕ
reported_characters rule =
    reported_from (λ _ chars. reports_of rule chars) (λ chars. length chars) 0

-- The result of some calls: each has read a part of the text, and the bytes are a prefix of those
-- of the whole text.
pub record HasRunEncoding (b : List ℕ) (e : Encoding) (text : List ℕ) (calls : List EncodeCall)
    (bytes : List ℕ) (read : ℕ) (unmappables : List ℕ) (had_unmappables : Bool) : Type 0 where
  pub parts : List (RunPart ℕ)
  pub unread : List ℕ
  pub more : List ℕ
  pub chars : text ≡ done_of_parts parts ++ unread
  pub count : read ≡ length (done_of_parts parts)
  pub calls_are : map (λ (p : RunPart ℕ). p.replaces) parts
      ≡ map (λ (c : EncodeCall). c.replace) calls
  pub beginning : whole_bytes b e text ≡ bytes ++ more
  -- the unmappable characters met by calls that report them, in order, as reported
  pub reported : unmappables ≡ reported_characters (output_rule b e) parts
  pub flag : had_unmappables ≡ any_unmappable (output_rule b e) (done_of_parts parts)
