-- What calls of a decoder say of the output that they append to.
use Rattle.std.proofs.Common.{◌≡◌, ℕ, ◌+◌, ◌-◌, ◌≤◌, Bool, List, [], ◌++◌, length, take, drop}
use Rattle.std.proofs.lemmas.Bool.{false≢true}
use Rattle.std.proofs.Common.{refl, ap, ◌∙◌, sym, arith}
use Rattle.std.proofs.Math.Seq.{take-append_seam, drop-append_seam}
use Rattle.enc_output.specs.declared.decoder_result.DecoderResult.TheVariants.{InputEmpty, Malformed}
use Rattle.enc_utf8.specs.declared.coder_result.CoderResult.{CoderResult}
use Rattle.enc_utf8.specs.declared.coder_result.CoderResult.TheVariants as coder
use Rattle.enc_output.specs.Results.{decoder_result_of}
use Rattle.enc_output.specs.Output.{Output}
use Rattle.enc_decoder.specs.declared.error_mode.ErrorMode.TheVariants.{Replacement}
use Rattle.enc_decoder.specs.Call.{is_replacement_mode}
use Rattle.enc_decoder.specs.CallRecord.{CallInto}
use Rattle.enc_stream.specs.Decoding.{DecoderState}
use Rattle.enc_stream.specs.Decoding.{TakesSmallTexts, AnswersDecode, AnswersDecodeInto}
use Rattle.enc_utf8.proofs.LengthLemmas.{lengths}

-- a call with replacement that goes on does so without replacement
pub still_goes_on : (result : CoderResult) → (result ≡ coder.InputEmpty → ⊥)
    → decoder_result_of result ≡ InputEmpty → ⊥
still_goes_on coder.InputEmpty goes_on is_empty = goes_on refl
still_goes_on coder.OutputFull goes_on is_empty = cc

-- a call that replaces reports nothing
pub reports_none : {units_of : ℕ → List ℕ} {least : ℕ} → TakesSmallTexts units_of least
    → {old new : DecoderState} {c : CallInto} → AnswersDecodeInto units_of old new c
    → c.mode ≡ Replacement → (l a : ℕ) → c.result ≡ Malformed l a → ⊥
reports_none {least} takes answers replaces l a is_malformed =
    let stops = rw is_malformed at (answers.converts least takes).decodes.call.stops in
    false≢true (sym stops.not_replaced ∙ ap is_replacement_mode replaces)

-- A call over an output that is empty as yet.
pub over_slice : {units_of : ℕ → List ℕ} {least : ℕ} → TakesSmallTexts units_of least
    → {old new : DecoderState} {c : CallInto} → AnswersDecodeInto units_of old new c
    → {text : List ℕ} {room : ℕ} {flag : Bool}
    → c.before.written ≡ [] → c.before.room ≡ room → c.after.written ≡ text → c.replaced ≡ flag
    → AnswersDecode units_of least old new (record {
      src = c.src;
      last = c.last;
      mode = c.mode;
      room = room;
      result = c.result;
      read = c.read;
      wrote = text;
      replaced = flag;
    })
over_slice {least} takes answers {text} none_before room_is text_is flag_is =
    let wrote_text : answers.wrote ≡ text =
    sym (ap (λ x. x ++ answers.wrote) none_before)
    ∙ sym (ap (λ (o : Output). o.written) answers.onto) ∙ text_is in
    rw (wrote_text, room_is, flag_is) at (answers.converts least takes)

-- A call over an output that has a text already.
pub over_text : {units_of : ℕ → List ℕ} {least : ℕ} {text now : List ℕ} {len room : ℕ}
    {flag : Bool}
    → TakesSmallTexts units_of least
    → {old new : DecoderState} {c : CallInto} → AnswersDecodeInto units_of old new c
    → c.before.written ≡ text → length text ≡ len → c.before.room ≡ room
    → c.after.written ≡ now → c.replaced ≡ flag
    → AnswersDecode units_of least old new (record {
      src = c.src;
      last = c.last;
      mode = c.mode;
      room = room;
      result = c.result;
      read = c.read;
      wrote = drop len now;
      replaced = flag;
    })
over_text {least} {text} {now} {len} takes answers text_is len_is room_is now_is flag_is =
    let all : text ++ answers.wrote ≡ now =
    rw (← text_is) (sym (ap (λ (o : Output). o.written) answers.onto) ∙ now_is) in
    let wrote_rest : answers.wrote ≡ drop len now =
    sym (drop-append_seam text answers.wrote) ∙ rw (len_is, all) refl in
    rw (wrote_rest, room_is, flag_is) at (answers.converts least takes)

-- what was there stays in front
pub in_front : (wrote : List ℕ) {before after text now : List ℕ} {len : ℕ} → after ≡ before ++ wrote
    → before ≡ text → length text ≡ len → after ≡ now → take len now ≡ text
in_front wrote {text} appended text_is len_is now_is =
    rw (← now_is, appended, text_is, ← len_is) (take-append_seam text wrote)

-- the text written comes out of the spare capacity, so the capacity does not shrink
pub capacity_stays : (before wrote : List ℕ) {after : List ℕ}
    {len room room_after capacity capacity_after end : ℕ}
    → after ≡ before ++ wrote → room_after ≡ room - length wrote
    → length before ≡ len → room ≡ capacity - len → length after + room_after ≤ capacity_after
    → capacity_after ≡ end → capacity ≤ end
capacity_stays before wrote appended falls len_is room_is fits end_is =
    omega (arith, lengths, ap length appended, falls, len_is, room_is, fits, end_is)
