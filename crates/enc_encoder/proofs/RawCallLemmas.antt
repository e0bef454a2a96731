-- A call of the raw encoder is a call in an error mode, without replacement or where no character
-- is unmappable.
use Rattle.std.proofs.Common.{◌≡◌, ℕ, ◌+◌, ◌-◌, ◌≤◌, ◌⊎◌, inl, inr, Bool, true, false, ◌&&◌, List, []}
use Rattle.std.proofs.Common.{length, refl, ap, ◌∙◌, sym, subst, arith, append-nil}
use Rattle.std.proofs.lemmas.Bool.{false≢true}
use Rattle.enc_input.specs.declared.encoder_result.EncoderResult.{EncoderResult}
use Rattle.enc_input.specs.declared.encoder_result.EncoderResult.TheVariants.{InputEmpty, OutputFull, Unmappable}
use Rattle.enc_encoder.specs.declared.character_set.CharacterSet.TheVariants.{Ascii}
use Rattle.enc_encoder.specs.EncoderRule.{RawEncoderState, IsLawfulEncoderRule}
use Rattle.enc_utf8.specs.Text.{units_of_text}
use Rattle.enc_encoder.specs.Steps.{Step, step_chars, step_bytes, any_reported}
use Rattle.enc_encoder.specs.Text.{KeepsText}
use Rattle.enc_encoder.specs.Writes.{Leaves, Adds, Place, place, Writes}
use Rattle.enc_encoder.specs.Call.{EncoderCallInto, EncoderStops}
use Rattle.enc_encoder.specs.ErrorMode.{EncodeErrorMode, Fatal, Html, CallOnto, MapsEveryCharacter}
use Rattle.enc_encoder.specs.ErrorMode.{StopsInHtmlMode, StopsInMode, StepsFitInMode, bytes_in_mode, is_html_mode}
use Rattle.enc_encoder.specs.ErrorMode.{mode_of, kept_in}
use Rattle.enc_encoder.specs.declared.error_mode.ErrorMode.{ErrorMode}
use Rattle.enc_encoder.specs.declared.error_mode.ErrorMode.TheVariants as code
use Rattle.enc_encoder.proofs.UnmappableLemmas.{any_reported_is, none_unmappable}
use Rattle.enc_encoder.proofs.LeavesLemmas.{leaves_of, written_bytes, rest_stays}
use Rattle.enc_encoder.proofs.TextLemmas.{unreferred, is_reported, keeps_text}
use Rattle.enc_encoder.proofs.MachineLemmas.{units_read}
use Rattle.enc_encoder.proofs.ReferenceStopLemmas.{all_fit, unreported_before, none_left}

-- these steps, and the bytes that a call in the mode writes of them
module _ {last : Bool} {old : RawEncoderState} {src slice : List ℕ} {to : Place}
    {done : List Step} {wrote : List ℕ} (leaves : Leaves last old to.state src to.rest done)
    (adds : Adds slice to.slice 0 to.written wrote) where
  pub onto : {units_of : ℕ → List ℕ} (mode : EncodeErrorMode) (result : EncoderResult) {read : ℕ}
      {replaced : Bool} → wrote ≡ bytes_in_mode mode done
      → StepsFitInMode mode (length slice) done
      → replaced ≡ (is_html_mode mode && any_reported done)
      → StopsInMode mode to.state to.rest last (length slice) done result
      → read ≡ length (units_of_text units_of (step_chars done))
      → KeepsText old to.state src to.rest last result wrote
      → CallOnto units_of mode last (place old src slice 0) to result read replaced
  onto mode result bytes fits flag stops units text =
      let wrote_is = written_bytes adds in
      record {
        within = adds.fits;
        rest_stays = rest_stays adds;
        call = record {
          done = done;
          reads = leaves.reads;
          remaining = leaves.remaining;
          rule = leaves.rule;
          set = leaves.set;
          bytes = wrote_is ∙ bytes;
          fits = fits;
          flag = flag;
          stops = stops;
          units = units;
          text = subst (KeepsText old to.state src to.rest last result) (sym wrote_is) text;
        };
      }

-- why a call stops that has none
html_stops : (new : RawEncoderState) (rest : List ℕ) (last : Bool) (room : ℕ) (done : List Step)
    (result : EncoderResult) → EncoderStops new rest last room done result
    → any_reported done ≡ false → StopsInHtmlMode 0 new rest last room done result
html_stops new rest last room done InputEmpty stops none =
    none_left new rest last stops.all_read stops.ended
html_stops new rest last room done OutputFull stops none =
    inl (record {
      next = stops.next;
      others = stops.others;
      comes = stops.comes;
      not_report = stops.not_report;
      full = omega (arith, stops.full, ap length (unreferred done none));
    })
html_stops new rest last room done (Unmappable c) stops none =
    false≢true (sym none ∙ is_reported stops)

module _ {units_of : ℕ → List ℕ} {last : Bool} {old : RawEncoderState} {src slice : List ℕ}
    {to : Place} {result : EncoderResult} {read : ℕ}
    (encoded : EncoderCallInto units_of last (place old src slice 0) to result read) where
  abbrev done : List Step
  done = encoded.call.done

  reporting_call : CallOnto units_of Fatal last (place old src slice 0) to result read false
  reporting_call =
      onto (leaves_of encoded.call) encoded.adds Fatal result encoded.call.bytes
      (omega (arith, ap length encoded.call.bytes, encoded.call.fits)) refl encoded.call.stops
      encoded.units encoded.text

  -- where no character is unmappable
  mappable_call : MapsEveryCharacter old.rule
      → CallOnto units_of (Html 0) last (place old src slice 0) to result read false
  mappable_call maps_all =
      let none : any_reported done ≡ false =
      any_reported_is (leaves_of encoded.call) ∙ none_unmappable old.rule maps_all _ in
      let fits = all_fit (length slice - 0) 0 done (unreported_before (length slice - 0) 0 done none
      (omega (arith, encoded.call.fits, ap length encoded.call.bytes))) in
      onto (leaves_of encoded.call) encoded.adds (Html 0) result
      (encoded.call.bytes ∙ sym (unreferred done none))
      (fits, λ small. absurd (omega (arith, small))) (sym none)
      (html_stops to.state to.rest last (length slice) done result encoded.call.stops none)
      encoded.units encoded.text

  pub unreplaced_call : (mode : ErrorMode) → (mode ≡ code.Fatal) ⊎ (mode ≡ code.HtmlOfMappable)
      → (mode ≡ code.HtmlOfMappable → MapsEveryCharacter old.rule)
      → CallOnto units_of (mode_of mode) last (place old src slice 0) to result read false
  unreplaced_call code.Fatal mode_is maps_all = reporting_call
  unreplaced_call code.HtmlOfMappable mode_is maps_all = mappable_call (maps_all refl)
  unreplaced_call code.Html (inl mode_is) maps_all = cc
  unreplaced_call code.Html (inr mode_is) maps_all = cc

-- A first run takes all characters, no escape sequence is due after it, and the part that is kept
-- free is left.
module _ {last : Bool} {old : RawEncoderState} {src slice : List ℕ} {to : Place}
    (writes : Writes last (place old src slice 0) to) (all_read : to.rest ≡ []) where
  all_units : (units_of : ℕ → List ℕ) (count : ℕ) → count ≡ length (units_of_text units_of src)
      → count ≡ length (units_of_text units_of (step_chars writes.done))
  all_units units_of count counted =
      let read = (units_read units_of (step_chars writes.done) to.rest writes.leaves.reads counted
      (ap (λ t. length (units_of_text units_of t)) (sym all_read))).1 in
      omega (arith, read)

  keeps : IsLawfulEncoderRule old.rule
      → KeepsText old to.state src to.rest last InputEmpty (step_bytes writes.done)
  keeps lawful = keeps_text writes.leaves lawful InputEmpty (step_bytes writes.done)
      (unreferred writes.done writes.none_reported ∙ sym (append-nil (step_bytes writes.done)))

  pub run_call : {units_of : ℕ → List ℕ} {count : ℕ} (mode : EncodeErrorMode)
      → IsLawfulEncoderRule old.rule → count ≡ length (units_of_text units_of src)
      → (last ≡ true → to.state.set ≡ Ascii) → to.written + kept_in mode ≤ length slice
      → CallOnto units_of mode last (place old src slice 0) to InputEmpty count false
  run_call {units_of} {count} Fatal lawful counted ended room =
      onto writes.leaves writes.adds Fatal InputEmpty refl
      (omega (arith, writes.adds.count, writes.adds.fits)) refl
      (record { none_reported = writes.none_reported; all_read = all_read; ended = ended })
      (all_units units_of count counted) (keeps lawful)
  run_call {units_of} {count} (Html kept) lawful counted ended room =
      let done = writes.done in
      let none = writes.none_reported in
      let limit = length slice - kept in
      onto writes.leaves writes.adds (Html kept) InputEmpty (sym (unreferred done none)) (
        all_fit limit 0 done (unreported_before limit 0 done none
            (omega (arith, room, writes.adds.count))),
        λ small. absurd (omega (arith, room, small)),
      )
      (sym none) (none_left to.state to.rest last all_read ended)
      (all_units units_of count counted) (keeps lawful)
