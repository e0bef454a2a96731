-- A call as one record: what it is given, and what it does.
use Rattle.std.specs.Prelude.{ℕ, Bool, List}
use Rattle.enc_output.specs.declared.decoder_result.DecoderResult.{DecoderResult}
use Rattle.enc_output.specs.Output.{Output}
use Rattle.enc_decoder.specs.declared.error_mode.ErrorMode.{ErrorMode}
use Rattle.enc_decoder.specs.declared.error_mode.CallOptions.{CallOptions}
use Rattle.enc_decoder.specs.declared.outcome.DecoderOutcome.{DecoderOutcome}

-- The chunk, whether nothing follows it, the error mode and the room of the output; why the call
-- stopped, the number of bytes read, the code units written, and whether a sequence was replaced.
pub record Call : Type 0 where
  pub src : List ℕ
  pub last : Bool
  pub mode : ErrorMode
  pub room : ℕ
  pub result : DecoderResult
  pub read : ℕ
  pub wrote : List ℕ
  pub replaced : Bool

-- A call that appends what it writes to an output: the outputs before and after it, in place of the
-- room and the code units written.
pub record CallInto : Type 0 where
  pub src : List ℕ
  pub last : Bool
  pub mode : ErrorMode
  pub before : Output
  pub after : Output
  pub result : DecoderResult
  pub read : ℕ
  pub replaced : Bool

-- the same, by what the call is asked for and its outcome
abbrev pub call_into : List ℕ → CallOptions → Output → Output → DecoderOutcome → CallInto
call_into src options before after outcome = record {
  src = src;
  last = options.last;
  mode = options.mode;
  before = before;
  after = after;
  result = outcome.result;
  read = outcome.read;
  replaced = outcome.replaced;
}

-- the same call, by its room and the code units that it writes
abbrev pub call_writing : CallInto → List ℕ → Call
call_writing c wrote = record {
  src = c.src;
  last = c.last;
  mode = c.mode;
  room = c.before.room;
  result = c.result;
  read = c.read;
  wrote = wrote;
  replaced = c.replaced;
}
