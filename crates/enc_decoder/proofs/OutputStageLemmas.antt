-- How far calls have come over an output, and the call that goes on there.
use Rattle.enc_decoder.proofs.SequenceLemmas.{or_false}
use Rattle.enc_decoder.proofs.StageLemmas.{start_stage}
use Rattle.enc_decoder.proofs.LeavesLemmas.{nothing_read}
use Rattle.std.proofs.Common.{◌≡◌, ℕ, ◌+◌, ◌-◌, ◌≤◌, Bool, true, false, List, [], ◌++◌, length, refl, ap, ◌∙◌}
use Rattle.std.proofs.Common.{sym, append-nil, subst}
use Rattle.enc_output.specs.declared.decoder_result.DecoderResult.{DecoderResult}
use Rattle.enc_output.specs.Output.{Output, with_appended}
use Rattle.enc_output.proofs.OutputLemmas.{with_appended-nil, with_appended-with_appended, room_left}
use Rattle.enc_decoder.specs.Sequence.{Sequence}
use Rattle.enc_decoder.specs.Remainder.{Remainder, AreBytes}
use Rattle.enc_decoder.specs.declared.error_mode.ErrorMode.{ErrorMode}
use Rattle.enc_decoder.specs.Call.{IsRawCall, IsCallInto}
use Rattle.enc_decoder.specs.CallRecord.{CallInto}
use Rattle.enc_decoder.proofs.StageLemmas.{stage_after, stage_at, written_on}
use Rattle.enc_decoder.proofs.StageLemmas.{Stage, HasWritten, nothing_written}
use Rattle.enc_decoder.proofs.InnerCallLemmas.{reports_escape}
use Rattle.enc_decoder.specs.CodecState.{CodecState, remainder_of}
use Rattle.enc_decoder.proofs.StateLeavesLemmas.{LeadsOn, state_leaves}
use Rattle.enc_decoder.proofs.LeavesLemmas.{Leaves, AreAccounted, call_at, raw_call, leaves_on}
use Rattle.enc_decoder.proofs.LeavesLemmas.{accounted_on}

-- Calls have come to this stage: what they leave, and the output before and after them.
pub record Reaches (units_of : ℕ → List ℕ) (old now : Remainder) (before after : Output)
    (stage : Stage) : Type 0 where
  pub bytes : AreBytes stage.src
  pub leaves : Leaves old now stage
  pub written : HasWritten units_of stage
  pub accounted : AreAccounted old now stage
  pub onto : after ≡ with_appended before stage.wrote
  pub room : stage.room ≡ before.room

-- the same, by what a loop knows of the stage
pub record Progress (units_of : ℕ → List ℕ) (old now : Remainder) (src : List ℕ) (last : Bool)
    (mode : ErrorMode) (before after : Output) (read : ℕ) (replaced : Bool) : Type 0 where
  pub done : List Sequence
  pub wrote : List ℕ
  pub reaches : Reaches units_of old now before after (record {
    src = src;
    last = last;
    mode = mode;
    room = before.room;
    read = read;
    done = done;
    wrote = wrote;
    replaced = replaced;
  })

-- the call that ends there, over an output
abbrev pub call_to : Stage → Output → Output → DecoderResult → ℕ → CallInto
call_to stage before after result read = record {
  src = stage.src;
  last = stage.last;
  mode = stage.mode;
  before = before;
  after = after;
  result = result;
  read = read;
  replaced = stage.replaced;
}

-- what a loop knows where it reaches a stage
pub progress_at : {units_of : ℕ → List ℕ} {old now : Remainder} {before after : Output}
    {stage : Stage} {read : ℕ} {replaced : Bool} → Reaches units_of old now before after stage
    → stage.read ≡ read → stage.replaced ≡ replaced
    → Progress units_of old now stage.src stage.last stage.mode before after read replaced
progress_at {units_of} {old} {now} {before} {after} {stage} reaches same_read same_flag = record {
  done = stage.done;
  wrote = stage.wrote;
  reaches = rw (← same_flag, ← same_read) (subst (λ r. Reaches units_of old now before after
      (record stage { room = r })) reaches.room reaches);
}

-- nothing is read yet
pub start : {units_of : ℕ → List ℕ} {old : Remainder} {src : List ℕ} {last : Bool}
    {mode : ErrorMode} {before : Output} → AreBytes src
    → Progress units_of old old src last mode before before 0 false
start {old} {src} {last} {mode} {before} bytes = record {
  done = [];
  wrote = [];
  reaches = record {
    bytes = bytes;
    leaves = nothing_read (start_stage src last mode before.room);
    written = nothing_written;
    accounted = append-nil old.pending;
    onto = sym (with_appended-nil before);
    room = refl;
  };
}

module _ {units_of : ℕ → List ℕ} {old now : Remainder} {before at : Output} {stage : Stage}
    (reaches : Reaches units_of old now before at stage) where
  pub room_at : at.room ≡ stage.room - length stage.wrote
  room_at = room_left before at stage.wrote reaches.onto
      ∙ ap (λ r. r - length stage.wrote) (sym reaches.room)

  onto_on : {then : Output} (more : List ℕ) → then ≡ with_appended at more
      → then ≡ with_appended before (stage.wrote ++ more)
  onto_on more onto = onto ∙ ap (λ o. with_appended o more) reaches.onto
      ∙ with_appended-with_appended before stage.wrote more

  -- one more call, which replaces nothing, is a call with the earlier ones
  pub call_over : {new : Remainder} {then : Output} {result : DecoderResult} {n read : ℕ}
      → (next : IsRawCall units_of now new (call_at stage at.room result n [] false))
      → (reports_escape (call_at stage at.room result n [] false) next.call ≡ true
      → reaches.leaves.sure ≤ stage.read + n)
      → then ≡ at → stage.read + n ≡ read
      → IsCallInto units_of old new
      (call_to stage before then result read)
  call_over {result = result} {n} next sure unchanged same_read = record {
    wrote = stage.wrote;
    onto = unchanged ∙ reaches.onto;
    call = rw (← reaches.room, ← same_read) (rw (append-nil, or_false)
        at (raw_call reaches.bytes reaches.leaves reaches.written reaches.accounted
        (record { room = room_at; mode = refl }) next sure));
  }

  -- more sequences are done, and their text is written
  pub reaches_on : {new : Remainder} {then : Output} {n : ℕ} {ss : List Sequence} {more : List ℕ}
      {replaced : Bool} → Leaves now new (stage_at stage n ss more replaced)
      → HasWritten units_of (stage_at stage n ss more replaced)
      → AreAccounted now new (stage_at stage n ss more replaced) → then ≡ with_appended at more
      → Reaches units_of old new before then (stage_after stage n ss more replaced)
  reaches_on {new} {n = n} {ss} {more} leaves written accounted onto = record {
    bytes = reaches.bytes;
    leaves = leaves_on reaches.bytes reaches.leaves leaves;
    written = written_on reaches.written written;
    accounted = accounted_on reaches.bytes reaches.leaves new n ss reaches.accounted accounted;
    onto = onto_on more onto;
    room = reaches.room;
  }

-- the same where a codec goes on to another state
module _ {units_of : ℕ → List ℕ} {old : Remainder} {v : CodecState} {before at : Output}
    {stage : Stage} (reaches : Reaches units_of old (remainder_of v) before at stage) where
  pub reaches_state : {w : CodecState} {then : Output} {n : ℕ} {ss : List Sequence}
      {more : List ℕ} {replaced : Bool} → LeadsOn v w stage n ss
      → HasWritten units_of (stage_at stage n ss more replaced) → then ≡ with_appended at more
      → Reaches units_of old (remainder_of w) before then (stage_after stage n ss more replaced)
  reaches_state leads written onto =
      reaches_on reaches (state_leaves reaches.bytes leads) written leads.accounted onto
