-- How far calls have come in a chunk, and the text that they write with the next call.
use Rattle.std.proofs.Common.{◌≡◌, ℕ, ◌+◌, ◌-◌, ◌≤◌, Bool, false, List, [], ◌++◌, length, refl, ap, ◌∙◌, sym}
use Rattle.std.proofs.Common.{arith, ◌||◌, drop}
use Rattle.std.proofs.lemmas.List.{length-append}
use Rattle.enc_output.specs.declared.decoder_result.DecoderResult.{DecoderResult}
use Rattle.enc_utf8.specs.Text.{AreScalars, units_of_text}
use Rattle.enc_decoder.specs.Sequence.{Sequence, sequence_text, any_malformed}
use Rattle.enc_decoder.specs.declared.error_mode.ErrorMode.{ErrorMode}
use Rattle.enc_decoder.specs.Call.{is_replacement_mode}
use Rattle.enc_decoder.specs.CallRecord.{Call}
use Rattle.enc_decoder.proofs.SequenceLemmas.{units-append, any_malformed-append, scalars_of-append}

-- The chunk, whether nothing follows it, the error mode and the room of the output; the number of
-- bytes read, the sequences done, the code units written, and whether a sequence was replaced.
pub record Stage : Type 0 where
  pub src : List ℕ
  pub last : Bool
  pub mode : ErrorMode
  pub room : ℕ
  pub read : ℕ
  pub done : List Sequence
  pub wrote : List ℕ
  pub replaced : Bool

-- The text of the sequences done is written, and fits.
pub record HasWritten (units_of : ℕ → List ℕ) (stage : Stage) : Type 0 where
  pub text : stage.wrote ≡ units_of_text units_of (sequence_text stage.done)
  pub scalars : AreScalars (sequence_text stage.done)
  pub fits : length stage.wrote ≤ stage.room
  pub flag : stage.replaced ≡ any_malformed stage.done
  pub none_replaced : is_replacement_mode stage.mode ≡ false → stage.replaced ≡ false

-- The next call has the room that is left, and the mode of the stage.
pub record IsPartAt (stage : Stage) (next : Call) : Type 0 where
  pub room : next.room ≡ stage.room - length stage.wrote
  pub mode : next.mode ≡ stage.mode

-- what is done at a stage, and then a call that reads up to `read`, as one call
abbrev pub call_from : Stage → Bool → DecoderResult → ℕ → List ℕ → Bool → Call
call_from stage last result read wrote replaced = record {
  src = stage.src;
  last = last;
  mode = stage.mode;
  room = stage.room;
  result = result;
  read = read;
  wrote = stage.wrote ++ wrote;
  replaced = stage.replaced || replaced;
}

-- a stage of calls over the unread bytes of a stage
abbrev pub stage_at : Stage → ℕ → List Sequence → List ℕ → Bool → Stage
stage_at stage read done wrote replaced = record {
  src = drop stage.read stage.src;
  last = stage.last;
  mode = stage.mode;
  room = stage.room - length stage.wrote;
  read = read;
  done = done;
  wrote = wrote;
  replaced = replaced;
}

-- both stages as one
abbrev pub stage_after : Stage → ℕ → List Sequence → List ℕ → Bool → Stage
stage_after stage read done wrote replaced = record stage {
  read = stage.read + read;
  done = stage.done ++ done;
  wrote = stage.wrote ++ wrote;
  replaced = stage.replaced || replaced;
}

-- the text of both is written
pub written_on : {units_of : ℕ → List ℕ} {stage : Stage} {n : ℕ} {ss : List Sequence}
    {more : List ℕ} {replaced : Bool} → HasWritten units_of stage
    → HasWritten units_of (stage_at stage n ss more replaced)
    → HasWritten units_of (stage_after stage n ss more replaced)
written_on {units_of} {stage} {ss = ss} {more} {replaced} written next = record {
  text = rw (written.text, next.text, units-append) refl;
  scalars = scalars_of-append stage.done ss written.scalars next.scalars;
  fits = omega (arith, written.fits, next.fits, length-append stage.wrote more);
  flag = rw (written.flag, next.flag, any_malformed-append) refl;
  none_replaced = λ is_fatal.
      rw (written.none_replaced is_fatal, next.none_replaced is_fatal) refl;
}

pub length_on : {units_of : ℕ → List ℕ} {stage : Stage} → HasWritten units_of stage
    → (ts : List Sequence)
    → length (units_of_text units_of (sequence_text (stage.done ++ ts)))
    ≡ length stage.wrote + length (units_of_text units_of (sequence_text ts))
length_on {units_of} {stage} written ts =
    let more = units_of_text units_of (sequence_text ts) in
    ap length (units-append units_of stage.done ts ∙ ap (λ x. x ++ more) (sym written.text))
    ∙ length-append stage.wrote more

-- nothing is read or done yet
abbrev pub start_stage : List ℕ → Bool → ErrorMode → ℕ → Stage
start_stage src last mode room = record {
  src = src;
  last = last;
  mode = mode;
  room = room;
  read = 0;
  done = [];
  wrote = [];
  replaced = false;
}

pub nothing_written : {units_of : ℕ → List ℕ} {src : List ℕ} {last : Bool} {mode : ErrorMode}
    {room read : ℕ}
    → HasWritten units_of (record (start_stage src last mode room) { read = read })
nothing_written = record {
  text = refl;
  scalars = refl;
  fits = omega arith;
  flag = refl;
  none_replaced = λ _. refl;
}
