-- How many bytes a call in an error mode has to write, and that it goes on.
use Rattle.std.proofs.Common.{◌≡◌, ℕ, ◌+◌, ◌<◌, ◌≤◌, inl, inr, Bool, true, false, is_some, List, [], ◌∷◌}
use Rattle.std.proofs.Common.{length, refl, ap, ◌∙◌, sym, arith, length-append}
use Rattle.std.proofs.lemmas.Bool.{false≢true, or_parts}
use Rattle.enc_input.specs.declared.encoder_result.EncoderResult.{EncoderResult}
use Rattle.enc_input.specs.declared.encoder_result.EncoderResult.TheVariants.{InputEmpty, OutputFull, Unmappable}
use Rattle.enc_encoder.specs.EncoderRule.{RawEncoderState, IsLawfulEncoderRule}
use Rattle.enc_encoder.specs.Steps.{Step, steps_from_state, any_reported}
use Rattle.enc_encoder.specs.Writes.{Leaves}
use Rattle.enc_encoder.specs.Call.{EncoderStops}
use Rattle.enc_encoder.specs.Need.{encode_need, MeetsEncodeNeed}
use Rattle.enc_encoder.specs.ErrorMode.{EncodeErrorMode, Fatal, Html, CallInMode, IsCallInMode, StopsInMode, IsFull}
use Rattle.enc_encoder.specs.ErrorMode.{StopsInHtmlMode, ends_in_report}
use Rattle.enc_encoder.specs.Unmappable.{any_unmappable}
use Rattle.enc_encoder.proofs.LeavesLemmas.{leaves_in_mode}
use Rattle.enc_encoder.proofs.NeedLemmas.{meets_need, need_left, at_next}
use Rattle.enc_encoder.proofs.StepCountLemmas.{first_bytes, first_few}
use Rattle.std.proofs.Math.Bool.{or-true}
use Rattle.enc_encoder.proofs.TextLemmas.{unreferred}
use Rattle.enc_encoder.proofs.UnmappableLemmas.{any_reported_is, any_unmappable-append}

-- a call that reports unmappable characters meets its need
pub reporting_meets_need : {units_of : ℕ → List ℕ} {old new : RawEncoderState} {rest : List ℕ}
    {c : CallInMode}
    → IsCallInMode units_of old new rest c → c.mode ≡ Fatal
    → MeetsEncodeNeed old new c.src rest c.last c.room c.result (length c.wrote)
reporting_meets_need {c = c} call is_fatal =
    let bytes = rw is_fatal at call.bytes in
    let fits = rw is_fatal at call.fits in
    meets_need c.result (record {
      done = call.done;
      reads = call.reads;
      remaining = call.remaining;
      rule = call.rule;
      set = call.set;
      bytes = bytes;
      fits = omega (arith, fits, ap length bytes);
      stops = rw is_fatal at call.stops;
    })

one_reported : (ps : List Step) → ends_in_report ps ≡ true → any_reported ps ≡ true
one_reported [] ends = absurd (false≢true ends)
one_reported (p ∷ []) ends = rw ends refl
one_reported (p ∷ q ∷ ps) ends = rw (one_reported (q ∷ ps) ends) (or-true (is_some p.report))

-- A call that puts references: where no character is unmappable, and the room has the need and the
-- bytes that are kept back, it reads all.
not_full : {last : Bool} {old new : RawEncoderState} {src rest : List ℕ} {done : List Step}
    → Leaves last old new src rest done → any_reported done ≡ false → (kept room : ℕ)
    → encode_need old last src + kept ≤ room → IsFull kept new rest last room done → ⊥
not_full {last} {new = new} {rest = rest} {done} leaves none kept room room_is (inl at) =
    let next = at_next at.next at.others (steps_from_state new last rest) at.comes at.not_report in
    let wrote = ap length (unreferred done none) in
    omega (arith, room_is, at.full, next, need_left leaves none, wrote)
not_full {done = done} leaves none kept room room_is (inr (inl at)) =
    false≢true (sym none ∙ one_reported done at.reference)
not_full leaves none kept room room_is (inr (inr at)) = omega (arith, room_is, at.small)

all_read : (kept : ℕ) (new : RawEncoderState) (rest : List ℕ) (last : Bool) (room : ℕ)
    (done : List Step) (result : EncoderResult)
    → StopsInHtmlMode kept new rest last room done result
    → (IsFull kept new rest last room done → ⊥) → result ≡ InputEmpty
all_read kept new rest last room done InputEmpty stops none_full = refl
all_read kept new rest last room done OutputFull stops none_full = absurd (none_full stops)
all_read kept new rest last room done (Unmappable k) stops none_full = absurd stops

pub reads_all : {units_of : ℕ → List ℕ} {old new : RawEncoderState} {rest : List ℕ} {c : CallInMode}
    → IsCallInMode units_of old new rest c → (kept : ℕ) → c.mode ≡ Html kept
    → any_unmappable old.rule c.src ≡ false → encode_need old c.last c.src + kept ≤ c.room
    → c.result ≡ InputEmpty
reads_all {old = old} {new} {rest} {c} call kept is_html mappable room_is =
    let leaves = leaves_in_mode call in
    let none : any_reported call.done ≡ false =
    any_reported_is leaves
    ∙ (or_parts _ (any_unmappable old.rule rest)
    (sym (any_unmappable-append old.rule _ rest)
    ∙ ap (any_unmappable old.rule) (sym call.reads) ∙ mappable)).0 in
    all_read kept new rest c.last c.room call.done c.result (rw is_html at call.stops)
    (not_full leaves none kept c.room room_is)

-- how many bytes a call keeps back
abbrev pub kept_by : EncodeErrorMode → ℕ
kept_by Fatal = 0
kept_by (Html kept) = kept

-- A call with four bytes and those that are kept back takes a step, where it hasn't read all.

too_long : (v : RawEncoderState) → IsLawfulEncoderRule v.rule
    → (last : Bool) (t : List ℕ) (next : Step) (others : List Step)
    → steps_from_state v last t ≡ next ∷ others → length next.bytes ≤ 4
too_long v l last t next others e = omega (arith, ap first_bytes e, first_few v.rule l last v.set t)

some_ending : (ps : List Step) → ends_in_report ps ≡ true → 1 ≤ length ps
some_ending [] e = absurd (false≢true e)
some_ending (p ∷ ps) e = omega arith

module _ (new : RawEncoderState) (lawful : IsLawfulEncoderRule new.rule) (rest : List ℕ)
    (last : Bool) (room : ℕ) where
  takes_when_full : (kept : ℕ) → 4 + kept ≤ room → (done : List Step)
      → IsFull kept new rest last room done → 1 ≤ length done
  takes_when_full kept l (p ∷ done) f = omega arith
  takes_when_full kept l [] (inl next_step) =
      let few = too_long new lawful last rest next_step.next next_step.others next_step.comes in
      absurd (omega (arith, l, next_step.full, few))
  takes_when_full kept l [] (inr (inl r)) = absurd (false≢true r.reference)
  takes_when_full kept l [] (inr (inr s)) = absurd (omega (arith, l, s.small))

  takes_reporting : 4 ≤ room → (done : List Step) (result : EncoderResult)
      → (result ≡ InputEmpty → ⊥) → EncoderStops new rest last room done result → 1 ≤ length done
  takes_reporting l done InputEmpty n stops = absurd (n refl)
  takes_reporting l (p ∷ done) OutputFull n stops = omega arith
  takes_reporting l [] OutputFull n stops =
      let few = too_long new lawful last rest stops.next stops.others stops.comes in
      absurd (omega (arith, l, stops.full, few))
  takes_reporting l done (Unmappable c) n stops =
      omega (arith, ap length stops.then_report, length-append stops.before (stops.report ∷ []))

  pub takes_step : (mode : EncodeErrorMode) → 4 + kept_by mode ≤ room
      → (done : List Step) (result : EncoderResult) → (result ≡ InputEmpty → ⊥)
      → StopsInMode mode new rest last room done result → 1 ≤ length done
  takes_step Fatal l done result n s = takes_reporting (omega (arith, l)) done result n s
  takes_step (Html kept) l done InputEmpty n s = absurd (n refl)
  takes_step (Html kept) l done OutputFull n s = takes_when_full kept l done s
  takes_step (Html kept) l done (Unmappable c) n s = absurd s

-- fewer steps are left
pub goes_on : {units_of : ℕ → List ℕ} {old new : RawEncoderState} {rest : List ℕ} {c : CallInMode}
    → IsCallInMode units_of old new rest c → IsLawfulEncoderRule new.rule
    → 4 + kept_by c.mode ≤ c.room → (c.result ≡ InputEmpty → ⊥)
    → length (steps_from_state new c.last rest) < length (steps_from_state old c.last c.src)
goes_on {new = new} {rest} {c} call lawful enough not_ended =
    let some = takes_step new lawful rest c.last c.room c.mode enough call.done c.result not_ended
    call.stops in
    let all = length-append call.done (steps_from_state new c.last rest) in
    omega (arith, some, ap length call.remaining, all)
