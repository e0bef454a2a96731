-- The turns of a call that writes references: each is a call of the raw encoder, and then the
-- reference to the character that it reports.
use Rattle.std.proofs.Common.{◌≡◌, ℕ, ◌+◌, ◌-◌, ◌<◌, ◌≤◌, Bool, true, false, ◌||◌, is_some, Option, List, [], ◌∷◌}
use Rattle.std.proofs.Common.{◌++◌, length, take, drop, refl, ap, ◌∙◌, sym, subst, arith, append_assoc}
use Rattle.std.proofs.Common.{length-drop, length-append}
use Rattle.std.proofs.lemmas.List.{length-take}
use borrow.Rule.Slice.PartMut.{put_mid}
use Rattle.enc_utf8.specs.Text.{units_of_text}
use Rattle.enc_input.specs.declared.encoder_result.EncoderResult.{EncoderResult}
use Rattle.enc_input.specs.declared.encoder_result.EncoderResult.TheVariants.{InputEmpty, OutputFull, Unmappable}
use Rattle.enc_encoder.specs.declared.begun.Begun.{Begun}
use Rattle.enc_encoder.specs.EncoderRule.{RawEncoderState, IsLawfulEncoderRule}
use Rattle.enc_encoder.specs.Text.{reference, reference_after}
use Rattle.enc_encoder.specs.Steps.{Step, steps_from_state, any_reported, bytes_with_references}
use Rattle.enc_encoder.specs.Writes.{Leaves, Adds, Place, place}
use Rattle.enc_encoder.specs.Call.{EncoderCall, EncoderCallInto}
use Rattle.enc_encoder.specs.Begun.{HasBegun}
use Rattle.enc_encoder.specs.ErrorMode.{StepFits, StepsFit, ends_in_report}
use Rattle.std.proofs.Math.Bool.{or-true, or-false}
use Rattle.enc_encoder.proofs.StepLemmas.{any_reported-append}
use Rattle.enc_encoder.proofs.LeavesLemmas.{no_step, leaves_of, leaves_on, adds_none, adds_on, same_length}
use Rattle.enc_encoder.proofs.TextLemmas.{bytes_with_references-append, unreferred, done_is, reported_bytes}
use Rattle.enc_encoder.proofs.TextLemmas.{is_reported}
use Rattle.enc_encoder.proofs.ReferenceStopLemmas.{FitsBefore, AllBefore, fits-append, before-append, all_fit}
use Rattle.enc_encoder.proofs.ReferenceStopLemmas.{unreported_before}
use Rattle.enc_encoder.proofs.MachineLemmas.{units_read}
use Rattle.enc_encoder.proofs.SliceLemmas.{adds_in_part, adds_in_front, past_stays}

-- Steps lead from one place to another, and a reference is written for each report. All fit before
-- a limit, except that a last reference may reach it.
pub record Refers (last : Bool) (limit : ℕ) (from to : Place) (replaced : Bool) : Type 0 where
  pub done : List Step
  pub leaves : Leaves last from.state to.state from.rest to.rest done
  pub adds : Adds from.slice to.slice from.written to.written (bytes_with_references done)
  pub fits : StepsFit limit from.written done
  pub flag : replaced ≡ any_reported done

-- the same, where more steps may follow
pub record Turns (last : Bool) (limit : ℕ) (from to : Place) (replaced : Bool) : Type 0 where
  pub refers : Refers last limit from to replaced
  pub before : AllBefore limit from.written refers.done
  pub below : to.written ≤ limit
  pub within : limit ≤ length to.slice

pub no_turn : (last : Bool) (limit : ℕ) (at : Place) → at.written ≤ limit
    → limit ≤ length at.slice → Turns last limit at at false
no_turn last limit at below within = record {
  refers = record {
    done = [];
    leaves = no_step last at.state at.rest;
    adds = adds_none at.slice at.written (omega (arith, below, within));
    fits = tt;
    flag = refl;
  };
  before = tt;
  below = below;
  within = within;
}

-- a call of the raw encoder from one place to another
pub record EncodesTo (last : Bool) (room : ℕ) (from to : Place) (result : EncoderResult)
    : Type 0 where
  pub wrote : List ℕ
  pub adds : Adds from.slice to.slice from.written to.written wrote
  pub call : EncoderCall from.state to.state from.rest to.rest last room result wrote

-- a call of the raw encoder on the part of the slice up to the limit
pub encodes_part : {units_of : ℕ → List ℕ} {last : Bool} {limit : ℕ} {from now to : Place}
    {replaced : Bool} {result : EncoderResult} {read : ℕ} → Turns last limit from now replaced
    → EncoderCallInto units_of last (place now.state now.rest
    (take (limit - now.written) (drop now.written now.slice)) 0) to result read
    → EncodesTo last (limit - now.written) now (place to.state to.rest
    (put_mid now.written (limit - now.written) now.slice to.slice) (now.written + to.written))
    result
encodes_part {last = last} {limit} {now = now} {to} {result = result} turns encoded =
    let room : length (take (limit - now.written) (drop now.written now.slice))
    ≡ limit - now.written =
    rw (length-take, length-drop) (omega (arith, turns.below, turns.within)) in
    record {
      wrote = encoded.wrote;
      adds = adds_in_part now.slice now.written limit turns.below turns.within encoded.adds;
      call = subst (λ (x : ℕ). EncoderCall now.state to.state now.rest to.rest last x result
          encoded.wrote) room encoded.call;
    }

-- the reference to a character
pub adds_reference : (k : ℕ) {slice final : List ℕ} {at n : ℕ} → n ≡ length (reference k)
    → final ≡ take at slice ++ (reference k ++ drop (at + n) slice) → n ≤ 10
    → at + 10 ≤ length slice → Adds slice final at (at + n) (reference k)
adds_reference k length_is onto few within = record {
  count = omega (arith, length_is);
  fits = omega (arith, few, within);
  onto = onto;
}

module _ {last : Bool} {limit : ℕ} {from now next : Place} {replaced : Bool}
    (turns : Turns last limit from now replaced) {result : EncoderResult}
    (encodes : EncodesTo last (limit - now.written) now next result) where
  -- the steps of both, with the reference that the caller of the raw encoder writes
  join : {slice : List ℕ} {written : ℕ}
      → Adds next.slice slice next.written written (reference_after result)
      → StepsFit limit now.written encodes.call.done → {flag : Bool}
      → flag ≡ (replaced || any_reported encodes.call.done)
      → Refers last limit from (place next.state next.rest slice written) flag
  join {slice} {written} adds fit flag_is =
      let before = turns.refers in
      let done = encodes.call.done in
      let bytes_are : bytes_with_references before.done
      ++ (encodes.wrote ++ reference_after result) ≡ bytes_with_references (before.done ++ done) =
      ap (λ x. bytes_with_references before.done ++ x) (sym (done_is encodes.call))
      ∙ sym (bytes_with_references-append before.done done) in
      record {
        done = before.done ++ done;
        leaves = leaves_on before.leaves (leaves_of encodes.call);
        adds = subst (Adds from.slice slice from.written written) bytes_are
            (adds_on before.adds (adds_on encodes.adds adds));
        fits = fits-append limit from.written before.done done turns.before
            (subst (λ (x : ℕ). StepsFit limit x done) before.adds.count fit);
        flag = flag_is ∙ ap (λ b. b || any_reported done) before.flag
            ∙ sym (any_reported-append before.done done);
      }

  -- the raw call's bytes end before the part that is kept free
  pub in_limit : next.written ≤ limit
  in_limit = omega (arith, encodes.call.fits, encodes.adds.count, turns.below)

  -- a call that reports none
  pub join_unreported : any_reported encodes.call.done ≡ false → reference_after result ≡ []
      → Refers last limit from next replaced
  join_unreported none_reported no_reference =
      let fits = unreported_before limit now.written encodes.call.done none_reported
      (omega (arith, encodes.call.fits, ap length encodes.call.bytes, turns.below)) in
      join (rw no_reference (adds_none next.slice next.written
      (omega (arith, encodes.adds.fits, same_length encodes.adds))))
      (all_fit limit now.written encodes.call.done fits)
      (rw none_reported (sym (or-false replaced)))

-- the last step says whether a report is the last
ends_in_report-one : (ps : List Step) (q : Step) → ends_in_report (ps ++ q ∷ []) ≡ is_some q.report
ends_in_report-one [] q = refl
ends_in_report-one (p ∷ []) q = refl
ends_in_report-one (p ∷ p' ∷ ps) q = ends_in_report-one (p' ∷ ps) q

-- a turn that ends in a report, and then a reference
module _ {last : Bool} {limit : ℕ} {from now next : Place} {replaced : Bool}
    (turns : Turns last limit from now replaced) {k : ℕ}
    (encodes : EncodesTo last (limit - now.written) now next (Unmappable k)) where
  abbrev report : Step
  report = encodes.call.stops.report

  abbrev before : List Step
  before = encodes.call.stops.before

  -- the raw call's bytes end where the reference begins
  reference_begins : now.written + length (bytes_with_references before) ≡ next.written
  reference_begins =
      let stops = encodes.call.stops in
      let bytes = ap length (encodes.call.bytes ∙ reported_bytes stops) in
      rw (unreferred before stops.none_reported) (omega (arith, encodes.adds.count, bytes))

  fits_before_report : AllBefore limit now.written before
  fits_before_report =
      let stops = encodes.call.stops in
      unreported_before limit now.written before stops.none_reported
      (let bytes = ap length (unreferred before stops.none_reported) in
      omega (arith, in_limit turns encodes, reference_begins, bytes))

  -- the steps done, with the reference: the report is the last of them
  pub join_report : {slice : List ℕ} {written : ℕ}
      → Adds next.slice slice next.written written (reference k)
      → Refers last limit from (place next.state next.rest slice written) true
  join_report adds =
      let stops = encodes.call.stops in
      let at = now.written + length (bytes_with_references before) in
      let report_fits : StepFits limit at report.report (length report.bytes) [] =
      subst (λ (r : Option ℕ). StepFits limit at r (length report.bytes) []) (sym stops.reported)
      (omega (arith, in_limit turns encodes, reference_begins, ap length stops.none_written)) in
      join turns encodes adds
      (rw stops.then_report (fits-append limit now.written before (report ∷ []) fits_before_report
      (report_fits, tt))) (rw (is_reported stops) (sym (or-true replaced)))

  pub ends_here : {slice : List ℕ} {written : ℕ}
      (adds : Adds next.slice slice next.written written (reference k))
      → ends_in_report (join_report adds).done ≡ true
  unfolding join_report join
  ends_here adds =
      let stops = encodes.call.stops in
      ap (λ x. ends_in_report (turns.refers.done ++ x)) stops.then_report
      ∙ ap ends_in_report (sym (append_assoc turns.refers.done before (report ∷ [])))
      ∙ ends_in_report-one (turns.refers.done ++ before) report ∙ ap is_some stops.reported

  -- more turns may follow, if the reference ends before the part that is kept free
  pub next_turn : {slice : List ℕ} {written : ℕ}
      (adds : Adds next.slice slice next.written written (reference k)) → written < limit
      → Turns last limit from (place next.state next.rest slice written) true
  unfolding join_report join
  next_turn adds below =
      let stops = encodes.call.stops in
      let at = now.written + length (bytes_with_references before) in
      let report_fits : FitsBefore limit at report.report (length report.bytes) =
      subst (λ (r : Option ℕ). FitsBefore limit at r (length report.bytes)) (sym stops.reported)
      (omega (arith, adds.count, below, reference_begins, ap length stops.none_written)) in
      record {
        refers = join_report adds;
        before =
            before-append limit from.written turns.refers.done encodes.call.done turns.before
            (rw (sym turns.refers.adds.count, stops.then_report)
            (before-append limit now.written before (report ∷ []) fits_before_report
            (report_fits, tt)));
        below = omega (arith, below);
        within = omega (arith, turns.within, same_length encodes.adds, same_length adds);
      }

-- Turns, and the call of the raw encoder in the present one.
pub record Turned (last : Bool) (limit : ℕ) (from to : Place) (replaced : Bool)
    (result : EncoderResult) : Type 0 where
  pub now : Place
  pub turns : Turns last limit from now replaced
  pub encodes : EncodesTo last (limit - now.written) now to result
  pub lawful : IsLawfulEncoderRule now.state.rule

pub lawful_before : {last : Bool} {limit : ℕ} {from to : Place} {replaced : Bool}
    {result : EncoderResult} → Turned last limit from to replaced result
    → IsLawfulEncoderRule from.state.rule
lawful_before turned = subst IsLawfulEncoderRule turned.turns.refers.leaves.rule turned.lawful

module _ {units_of : ℕ → List ℕ} {begun : Begun} {v : RawEncoderState} {rest slice : List ℕ}
    (start : HasBegun units_of begun v rest slice) where
  -- no more code units are left than were given
  pub fewer_left : {limit : ℕ} {to : Place} {replaced : Bool} {result : EncoderResult}
      → Turned begun.last limit (place v start.given start.before 0) to replaced result → {b : ℕ}
      → b ≡ length (units_of_text units_of to.rest) → b ≤ begun.given
  fewer_left turned left_count =
      let leaves = leaves_on turned.turns.refers.leaves (leaves_of turned.encodes.call) in
      (units_read units_of _ _ leaves.reads start.counted left_count).0

  -- the slice that the call began with has the same length
  pub from_start : (kept : ℕ) {last : Bool} {from to : Place} {replaced : Bool}
      {result : EncoderResult} → Turned last (length slice - kept) from to replaced result
      → Turned last (length start.before - kept) from to replaced result
  from_start kept {last} {from} {to} {replaced} {result} =
      subst (λ n. Turned last (n - kept) from to replaced result)
      (same_length start.writes.adds)

-- the part that is kept free has room for a reference
pub reference_fits : {units_of : ℕ → List ℕ} {begun : Begun} {v : RawEncoderState}
    {rest slice : List ℕ} (start : HasBegun units_of begun v rest slice)
    → begun.written + 10 ≤ length slice → {to : Place} {replaced : Bool} {result : EncoderResult}
    → Turned begun.last (length slice - 10) (place v start.given start.before 0) to replaced result
    → to.written + 10 ≤ length to.slice
reference_fits start room turned =
    let turns = same_length turned.turns.refers.adds in
    let encodes = same_length turned.encodes.adds in
    omega (
      arith,
      room,
      in_limit turned.turns turned.encodes,
      same_length start.writes.adds,
      turns,
      encodes,
    )

-- the first turn, on the front of the slice
pub first_turn : {units_of : ℕ → List ℕ} {begun : Begun} {v : RawEncoderState}
    {rest slice : List ℕ} (start : HasBegun units_of begun v rest slice) (limit : ℕ)
    → begun.written ≤ limit → limit ≤ length slice → IsLawfulEncoderRule v.rule → {to : Place}
    {result : EncoderResult} {read : ℕ}
    → EncoderCallInto units_of begun.last (place v start.given (take limit start.before) 0) to
    result read
    → Turned begun.last limit (place v start.given start.before 0)
    (place to.state to.rest (to.slice ++ drop limit slice) to.written) false result
first_turn {begun = begun} {v} {slice = slice} start limit below within lawful {to} {result}
    encoded =
    let from = place v start.given start.before 0 in
    let whole : limit ≤ length start.before =
    omega (arith, within, same_length start.writes.adds) in
    let room : length (take limit start.before) ≡ limit - 0 =
    rw length-take (omega (arith, whole)) in
    let past = past_stays limit start.writes.adds below in
    record {
      now = from;
      turns = no_turn begun.last limit from (omega arith) whole;
      encodes = record {
        wrote = encoded.wrote;
        adds = rw past (adds_in_front limit whole encoded.adds);
        call = subst (λ (x : ℕ). EncoderCall v to.state start.given to.rest begun.last x result
            encoded.wrote) room encoded.call;
      };
      lawful = lawful;
    }

-- the next turn, after the reference to a character
pub turn_after : {units_of : ℕ → List ℕ} {last : Bool} {limit : ℕ} {from next : Place}
    {replaced : Bool} {k : ℕ} → Turned last limit from next replaced (Unmappable k)
    → {slice : List ℕ} {written : ℕ} → Adds next.slice slice next.written written (reference k)
    → written < limit → IsLawfulEncoderRule next.state.rule → {to : Place}
    {result : EncoderResult} {read : ℕ}
    → EncoderCallInto units_of last (place next.state next.rest
    (take (limit - written) (drop written slice)) 0) to result read
    → Turned last limit from (place to.state to.rest
    (put_mid written (limit - written) slice to.slice) (written + to.written)) true result
turn_after {next = next} turned {slice} {written} adds below lawful encoded =
    let turns = next_turn turned.turns turned.encodes adds below in
    record {
      now = place next.state next.rest slice written;
      turns = turns;
      encodes = encodes_part turns encoded;
      lawful = lawful;
    }

-- The steps left, and one more for a report, are at most those before the call.
abbrev pub turns_left : EncoderResult → ℕ → ℕ
turns_left InputEmpty steps = steps
turns_left OutputFull steps = steps
turns_left (Unmappable c) steps = steps + 1

pub fewer_turns : {old new : RawEncoderState} {src rest : List ℕ} {last : Bool} {room : ℕ}
    (result : EncoderResult) {wrote : List ℕ} → EncoderCall old new src rest last room result wrote
    → turns_left result (length (steps_from_state new last rest))
    ≤ length (steps_from_state old last src)
fewer_turns {new = new} {rest = rest} {last} InputEmpty call =
    omega (
      arith,
      ap length call.remaining,
      length-append call.done (steps_from_state new last rest),
    )
fewer_turns {new = new} {rest = rest} {last} OutputFull call =
    omega (
      arith,
      ap length call.remaining,
      length-append call.done (steps_from_state new last rest),
    )
fewer_turns {new = new} {rest = rest} {last} (Unmappable c) call =
    let stops = call.stops in
    omega (
      arith,
      ap length call.remaining,
      ap length stops.then_report,
      length-append call.done (steps_from_state new last rest),
      length-append stops.before (stops.report ∷ []),
    )
