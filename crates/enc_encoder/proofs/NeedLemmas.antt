-- The bytes that a call needs to write, and those it writes.
use Rattle.std.proofs.Common.{◌≡◌, ℕ, ◌+◌, ◌≤◌, Bool, true, false, None, List, [], ◌∷◌, ◌++◌, length, refl, ap}
use Rattle.std.proofs.Common.{◌∙◌, arith, append_assoc, append-nil, length-append}
use Rattle.enc_encoder.specs.declared.character_set.CharacterSet.TheVariants.{Ascii}
use Rattle.enc_input.specs.declared.encoder_result.EncoderResult.{EncoderResult}
use Rattle.enc_input.specs.declared.encoder_result.EncoderResult.TheVariants.{InputEmpty, OutputFull, Unmappable}
use Rattle.enc_encoder.specs.EncoderRule.{RawEncoderState}
use Rattle.enc_encoder.specs.Steps.{Step, steps_of, steps_from_state, step_bytes, any_reported, steps_at_end}
use Rattle.enc_encoder.specs.Call.{EncoderCall, AtUnmappable}
use Rattle.enc_encoder.specs.Writes.{Leaves}
use Rattle.enc_encoder.proofs.LeavesLemmas.{leaves_of}
use Rattle.enc_encoder.specs.Need.{steps_unless_report, steps_before_report, encode_need, MeetsEncodeNeed}
use Rattle.enc_encoder.proofs.StepLemmas.{step_bytes-append}
use Rattle.enc_encoder.proofs.TextLemmas.{parted, reported_bytes}

-- none of them is a report
steps_before_report-append : (ps qs : List Step) → any_reported ps ≡ false
    → steps_before_report (ps ++ qs) ≡ ps ++ steps_before_report qs
steps_before_report-append [] qs h = refl
steps_before_report-append (p ∷ ps) qs h =
    let both = parted p.report (any_reported ps) h in
    ap (λ r. steps_unless_report r p (steps_before_report (ps ++ qs))) both.0
    ∙ ap (λ x. p ∷ x) (steps_before_report-append ps qs both.1)

-- the bytes of a first step that is no report
pub at_next : (q : Step) (qs all : List Step) → all ≡ q ∷ qs → q.report ≡ None
    → length q.bytes ≤ length (step_bytes (steps_before_report all))
at_next q qs all e f =
    let first_counts : length (step_bytes (steps_before_report all))
    ≡ length (q.bytes ++ step_bytes (steps_before_report qs)) =
    ap (λ x. length (step_bytes (steps_before_report x))) e
    ∙ ap (λ r. length (step_bytes (steps_unless_report r q (steps_before_report qs)))) f in
    omega (arith, first_counts, length-append q.bytes (step_bytes (steps_before_report qs)))

-- nothing is to come at the end
at_end : (v : RawEncoderState) (last : Bool) → (last ≡ true → v.set ≡ Ascii)
    → encode_need v last [] ≡ 0
unfolding steps_of
at_end v true h = ap (λ s. length (step_bytes (steps_before_report (steps_at_end s)))) (h refl)
at_end v false h = refl

module _ {last : Bool} {old new : RawEncoderState} {src rest : List ℕ} {done : List Step}
    (leaves : Leaves last old new src rest done) where
  -- after steps without a report
  pub need_left : any_reported done ≡ false
      → encode_need old last src ≡ length (step_bytes done) + encode_need new last rest
  need_left none_reported =
      let remaining = steps_from_state new last rest in
      rw (leaves.remaining, steps_before_report-append done remaining none_reported)
      (ap length (step_bytes-append done (steps_before_report remaining))
      ∙ length-append (step_bytes done) (step_bytes (steps_before_report remaining)))

  -- up to a report
  need_to_report : {c : ℕ} (at : AtUnmappable done c)
      → encode_need old last src ≡ length (step_bytes done)
  need_to_report at =
      let remaining = steps_from_state new last rest in
      let others = at.report ∷ remaining in
      let parts : steps_from_state old last src ≡ at.before ++ others =
      leaves.remaining ∙ ap (λ x. x ++ remaining) at.then_report
      ∙ append_assoc at.before (at.report ∷ []) remaining in
      let front = steps_before_report-append at.before others at.none_reported in
      rw (parts, front, at.reported, append-nil at.before, reported_bytes at) refl

module _ {old new : RawEncoderState} {src rest : List ℕ} {last : Bool} {room : ℕ}
    {wrote : List ℕ} where
  pub meets_need : (result : EncoderResult) → EncoderCall old new src rest last room result wrote
      → MeetsEncodeNeed old new src rest last room result (length wrote)
  meets_need InputEmpty call =
      let stops = call.stops in
      let falls = need_left (leaves_of call) stops.none_reported in
      let none : encode_need new last rest ≡ 0 =
      ap (encode_need new last) stops.all_read ∙ at_end new last stops.ended in
      rw call.bytes (record {
        full = (
          λ e. cc,
          λ l. absurd (omega (arith, falls, none, call.fits, ap length call.bytes, l)),
        );
        falls = falls;
      })
  meets_need OutputFull call =
      let stops = call.stops in
      let falls = need_left (leaves_of call) stops.none_reported in
      let next = at_next stops.next stops.others (steps_from_state new last rest) stops.comes
      stops.not_report in
      rw call.bytes (record {
        full = (λ e. omega (arith, falls, next, stops.full), λ l. refl);
        falls = falls;
      })
  meets_need (Unmappable k) call =
      let falls : encode_need old last src ≡ length wrote + 0 =
      omega (arith, need_to_report (leaves_of call) call.stops, ap length call.bytes) in
      record { full = (λ e. cc, λ l. absurd (omega (arith, falls, call.fits, l))); falls = falls }
