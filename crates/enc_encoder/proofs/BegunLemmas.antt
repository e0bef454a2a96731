-- Calls of an encoder that have begun.
use Rattle.std.proofs.Common.{◌≡◌, ℕ, ◌+◌, ◌-◌, ◌≤◌, Bool, false, Option, List, ◌++◌, length, take, drop, subst, arith}
use Rattle.std.proofs.lemmas.List.{length-take}
use Rattle.enc_utf8.specs.Text.{units_of_text}
use Rattle.enc_input.specs.declared.encoder_result.EncoderResult.{EncoderResult}
use Rattle.enc_encoder.specs.declared.begun.Begun.{Begun}
use Rattle.enc_encoder.specs.declared.character_set.CharacterSet.TheVariants.{Ascii}
use Rattle.enc_encoder.specs.EncoderRule.{RawEncoderState}
use Rattle.enc_encoder.specs.Stateless.{stateless_state}
use Rattle.enc_encoder.specs.Writes.{Place, place}
use Rattle.enc_encoder.specs.Call.{EncoderCallInto}
use Rattle.enc_encoder.specs.Runs.{WritesRun}
use Rattle.enc_encoder.specs.Begun.{HasBegun, EndsCall}
use Rattle.enc_encoder.proofs.LeavesLemmas.{same_length, writes_nothing}
use Rattle.enc_encoder.proofs.SliceLemmas.{adds_to_front, adds_in_front}

-- a call that has written its first run
abbrev pub begins : {units_of : ℕ → List ℕ} {v : RawEncoderState} {src rest before after : List ℕ}
    {count n : ℕ} (last : Bool) → count ≡ length (units_of_text units_of src)
    → WritesRun v src rest before after 0 n
    → HasBegun units_of (record { last = last; given = count; written = n }) v rest after
begins {src = src} {before = before} {n = n} last counted run = record {
  given = src;
  before = before;
  counted = counted;
  writes = run last n (omega arith);
}

-- a first run that is written to the front of a slice is written to the slice
pub run_in_front : {v : RawEncoderState} {src rest slice after : List ℕ} (limit n : ℕ)
    → limit ≤ length slice → WritesRun v src rest (take limit slice) after 0 n
    → WritesRun v src rest slice (after ++ drop limit slice) 0 n
run_in_front limit n within run last to to_is =
    let writes = run last to to_is in
    record {
      done = writes.done;
      leaves = writes.leaves;
      none_reported = writes.none_reported;
      adds = adds_in_front limit within writes.adds;
    }

-- the part after the front is left
pub room_left : {v : RawEncoderState} {src rest after : List ℕ} (slice : List ℕ) (kept n : ℕ)
    → kept ≤ length slice → WritesRun v src rest (take (length slice - kept) slice) after 0 n
    → n + kept ≤ length slice
room_left slice kept n enough run =
    let fits = (run false n (omega arith)).adds.fits in
    let part : length (take (length slice - kept) slice) ≡ length slice - kept =
    rw length-take (omega arith) in
    omega (arith, fits, part, enough)

pub begun_within : {units_of : ℕ → List ℕ} {begun : Begun} {v : RawEncoderState}
    {rest slice : List ℕ} → HasBegun units_of begun v rest slice → begun.written ≤ length slice
begun_within start = omega (arith, start.writes.adds.fits, same_length start.writes.adds)

-- with a slice of which only the front is written
abbrev pub begun_in_front : {units_of : ℕ → List ℕ} {begun : Begun} {v : RawEncoderState}
    {rest slice : List ℕ} (limit : ℕ) → begun.written ≤ limit
    → HasBegun units_of begun v rest slice → HasBegun units_of begun v rest (take limit slice)
begun_in_front limit below start = record {
  given = start.given;
  before = take limit start.before;
  counted = start.counted;
  writes = record {
    done = start.writes.done;
    leaves = start.writes.leaves;
    none_reported = start.writes.none_reported;
    adds = adds_to_front limit start.writes.adds below;
  };
}

-- a call that has written nothing
abbrev pub begins_here : {units_of : ℕ → List ℕ} {count : ℕ} (last : Bool) (v : RawEncoderState)
    (src slice : List ℕ) → count ≡ length (units_of_text units_of src)
    → HasBegun units_of (record { last = last; given = count; written = 0 }) v src slice
begins_here last v src slice counted = record {
  given = src;
  before = slice;
  counted = counted;
  writes = writes_nothing last (place v src slice 0) (omega arith);
}

-- The rule stays, so the state at the end has the one at the start.
pub with_rule : {units_of : ℕ → List ℕ} {begun : Begun} {v : RawEncoderState}
    {rest slice : List ℕ} {to : Place} {result : EncoderResult} {read : ℕ}
    → EndsCall units_of begun v rest slice to result read
    → EndsCall units_of begun v rest slice
    (place (record { rule = v.rule; set = to.state.set }) to.rest to.slice to.written) result read
with_rule {units_of} {begun} {v} {to = to} {result} {read} ends start =
    let call = ends start in
    subst (λ r. EncoderCallInto units_of begun.last (place v start.given start.before 0)
    (place (record { rule = r; set = to.state.set }) to.rest to.slice to.written) result read)
    call.call.rule call

-- an encoder without escape sequences that has the same bytes, in its place
module _ {units_of : ℕ → List ℕ} {begun : Begun} {rest slice left after : List ℕ} where
  pub ends_by : {f g h : ℕ → Option (List ℕ)} {written read : ℕ} {result : EncoderResult} → f ≡ g
      → EndsCall units_of begun (stateless_state f) rest slice
      (place (stateless_state h) left after written) result read
      → EndsCall units_of begun (stateless_state g) rest slice
      (place (stateless_state g) left after written) result read
  ends_by {written = written} {read} {result} same ends =
      subst (λ x. EndsCall units_of begun (stateless_state x) rest slice
      (place (stateless_state x) left after written) result read) same (with_rule ends)
