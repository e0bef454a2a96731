-- Why a call that writes references stops.
use Rattle.std.proofs.Common.{◌≡◌, ℕ, ◌-◌, ◌<◌, ◌≤◌, inl, inr, Bool, true, false, List, [], length}
use Rattle.std.proofs.Common.{refl, ap, sym, arith, append-nil}
use Rattle.enc_utf8.specs.Text.{units_of_text}
use Rattle.enc_input.specs.declared.encoder_result.EncoderResult.{EncoderResult}
use Rattle.enc_input.specs.declared.encoder_result.EncoderResult.TheVariants.{InputEmpty, OutputFull, Unmappable}
use Rattle.enc_encoder.specs.EncoderRule.{RawEncoderState, IsLawfulEncoderRule}
use Rattle.enc_encoder.specs.Text.{reference, reference_after}
use Rattle.enc_encoder.specs.Steps.{Step, step_chars, bytes_with_references}
use Rattle.enc_encoder.specs.Writes.{Adds, Place, place}
use Rattle.enc_encoder.specs.ErrorMode.{EncodeErrorMode, Fatal, Html, CallOnto, StopsInHtmlMode}
use Rattle.enc_encoder.specs.ErrorMode.{IsFull, is_nothing_left, kept_in}
use Rattle.enc_encoder.specs.Replacing.{result_when_full}
use Rattle.enc_encoder.proofs.LeavesLemmas.{no_step, adds_none}
use Rattle.enc_encoder.proofs.TextLemmas.{keeps_text}
use Rattle.enc_encoder.proofs.MachineLemmas.{units_read}
use Rattle.enc_encoder.proofs.RawCallLemmas.{onto}
use Rattle.enc_encoder.proofs.ReferenceStopLemmas.{none_left}
use Rattle.enc_encoder.proofs.ReferenceTurnLemmas.{Refers, Turned, lawful_before, join_unreported, join_report}
use Rattle.enc_encoder.proofs.ReferenceTurnLemmas.{ends_here}

-- no reference is left to the caller
no_reference : (kept : ℕ) (new : RawEncoderState) (rest : List ℕ) (last : Bool) (room : ℕ)
    (done : List Step) (result : EncoderResult)
    → StopsInHtmlMode kept new rest last room done result → reference_after result ≡ []
no_reference kept new rest last room done InputEmpty stops = refl
no_reference kept new rest last room done OutputFull stops = refl
no_reference kept new rest last room done (Unmappable c) stops = absurd stops

-- by whether something is left to do
when_full : (kept : ℕ) (new : RawEncoderState) (rest : List ℕ) (last : Bool) (room : ℕ)
    (done : List Step) (nothing_left : Bool) → is_nothing_left new rest last ≡ nothing_left
    → (is_nothing_left new rest last ≡ false → IsFull kept new rest last room done)
    → StopsInHtmlMode kept new rest last room done (result_when_full nothing_left)
when_full kept new rest last room done true left full = left
when_full kept new rest last room done false left full = full left

-- with less than the part that is kept free
pub stop_small : (units_of : ℕ → List ℕ) (mode : EncodeErrorMode) (last : Bool)
    (old : RawEncoderState) (src slice : List ℕ) → length slice < kept_in mode
    → {result : EncoderResult} → result ≡ result_when_full (is_nothing_left old src last)
    → CallOnto units_of mode last (place old src slice 0) (place old src slice 0) result 0 false
stop_small units_of Fatal last old src slice small result_is = absurd (omega (arith, small))
stop_small units_of (Html kept) last old src slice small {result} result_is =
    let stops : StopsInHtmlMode kept old src last (length slice) [] result =
    rw result_is (when_full kept old src last (length slice) [] (is_nothing_left old src last) refl
    (λ left. inr (inr (record { small = small; left = left })))) in
    let none = no_reference kept old src last (length slice) [] result stops in
    onto (no_step last old src) (adds_none slice 0 (omega arith)) (Html kept) result refl
    (tt, λ _. refl) refl stops refl (λ z follows. rw none refl)

-- The output has the part that is kept free. The number of code units given is a, of those left b.
module _ (units_of : ℕ → List ℕ) (kept : ℕ) {last : Bool} {old : RawEncoderState}
    {src slice : List ℕ} {a : ℕ} (enough : kept ≤ length slice)
    (counted : a ≡ length (units_of_text units_of src)) where
  end : {to : Place} {replaced : Bool}
      (refers : Refers last (length slice - kept) (place old src slice 0) to replaced)
      → IsLawfulEncoderRule old.rule → (result : EncoderResult)
      → StopsInHtmlMode kept to.state to.rest last (length slice) refers.done result
      → {b : ℕ} → b ≡ length (units_of_text units_of to.rest)
      → CallOnto units_of (Html kept) last (place old src slice 0) to result (a - b) replaced
  end {to} refers lawful result stops left_count =
      let bytes = bytes_with_references refers.done in
      let none = no_reference kept to.state to.rest last (length slice) refers.done result stops in
      onto refers.leaves refers.adds (Html kept) result refl
      (refers.fits, λ small. absurd (omega (arith, enough, small))) refers.flag stops
      (units_read units_of (step_chars refers.done) to.rest refers.leaves.reads counted
      left_count).1
      (keeps_text refers.leaves lawful result bytes (rw none (sym (append-nil bytes))))

  -- with the raw encoder
  pub stop_raw : (result : EncoderResult) → ((c : ℕ) → result ≡ Unmappable c → ⊥)
      → {next : Place} {replaced : Bool}
      → Turned last (length slice - kept) (place old src slice 0) next replaced result
      → {b : ℕ} → b ≡ length (units_of_text units_of next.rest)
      → CallOnto units_of (Html kept) last (place old src slice 0) next result (a - b) replaced
  stop_raw InputEmpty none {next} turned left_count =
      let stops = turned.encodes.call.stops in
      end (join_unreported turned.turns turned.encodes stops.none_reported refl)
      (lawful_before turned) InputEmpty
      (none_left next.state next.rest last stops.all_read stops.ended) left_count
  stop_raw OutputFull none {next} turned left_count =
      let encodes = turned.encodes in
      let stops = encodes.call.stops in
      let refers = join_unreported turned.turns encodes stops.none_reported refl in
      end refers (lawful_before turned) OutputFull (inl (record {
        next = stops.next;
        others = stops.others;
        comes = stops.comes;
        not_report = stops.not_report;
        full =
            let bytes = ap length encodes.call.bytes in
            let below = turned.turns.below in
            omega (arith, encodes.adds.count, below, stops.full, refers.adds.count, bytes);
      })) left_count
  stop_raw (Unmappable c) none turned left_count = absurd (none c refl)

  -- after a reference
  pub stop_after : {k : ℕ} {next : Place} {replaced : Bool}
      (turned : Turned last (length slice - kept) (place old src slice 0) next replaced
      (Unmappable k))
      {final : List ℕ} {written : ℕ}
      (adds : Adds next.slice final next.written written (reference k))
      → length slice - kept ≤ written → {result : EncoderResult}
      → result ≡ result_when_full (is_nothing_left next.state next.rest last)
      → {b : ℕ} → b ≡ length (units_of_text units_of next.rest)
      → CallOnto units_of (Html kept) last (place old src slice 0)
      (place next.state next.rest final written) result (a - b) true
  stop_after {next = next} turned adds reached {result} result_is left_count =
      let refers = join_report turned.turns turned.encodes adds in
      end refers (lawful_before turned) result
      (rw result_is (when_full kept next.state next.rest last (length slice) refers.done
      (is_nothing_left next.state next.rest last) refl (λ left. inr (inl (record {
        reference = ends_here turned.turns turned.encodes adds;
        full = omega (arith, reached, refers.adds.count);
        left = left;
      }))))) left_count
