-- Steps report the unmappable characters among those that they read, each as its reported
-- character.
use Rattle.std.proofs.Common.{◌≡◌, ℕ, Bool, true, false, not, ◌||◌, Option, Some, None, is_some, List, [], ◌∷◌, ◌++◌}
use Rattle.std.proofs.Common.{refl, ap, ◌∙◌, sym, if◌then◌else◌, append-nil}
use Rattle.std.proofs.lemmas.List.{append_cancel_right}
use Rattle.enc_input.specs.declared.encoder_result.EncoderResult.TheVariants.{Unmappable}
use Rattle.enc_encoder.specs.declared.character_set.CharacterSet.{CharacterSet}
use Rattle.enc_encoder.specs.declared.character_set.CharacterSet.TheVariants.{Ascii}
use Rattle.enc_encoder.specs.EncoderRule.{EncoderRule, RawEncoderState, set_for}
use Rattle.enc_encoder.specs.Steps.{Step, steps_of, steps_from_state, step_chars, any_reported, escape_steps_before}
use Rattle.enc_encoder.specs.Steps.{escape_step, char_step, first_written_char, steps_at_end}
use Rattle.enc_encoder.specs.Call.{EncoderStops}
use Rattle.enc_encoder.specs.Writes.{Leaves}
use Rattle.enc_encoder.specs.ErrorMode.{CallInMode, IsCallInMode, Html, MapsEveryCharacter}
use Rattle.std.proofs.Math.Bool.{or_assoc}
use Rattle.enc_encoder.proofs.StepLemmas.{joined-append}
use Rattle.enc_encoder.proofs.LeavesLemmas.{leaves_in_mode}
use Rattle.enc_encoder.proofs.TextLemmas.{parted}
use Rattle.enc_encoder.specs.Unmappable.{any_unmappable, report_for, reports_of}

abbrev pub reports_by : Option ℕ → List ℕ
reports_by None = []
reports_by (Some c) = c ∷ []

-- the characters that steps report, in order
abbrev pub reports_in : List Step → List ℕ
reports_in [] = []
reports_in (p ∷ ps) = reports_by p.report ++ reports_in ps

pub reports_in-append : (ps qs : List Step) → reports_in (ps ++ qs) ≡ reports_in ps ++ reports_in qs
reports_in-append =
    joined-append (λ (p : Step). reports_by p.report) reports_in refl (λ p ps. refl)

pub reports_of-append : (e : EncoderRule) (a b : List ℕ)
    → reports_of e (a ++ b) ≡ reports_of e a ++ reports_of e b
reports_of-append e =
    joined-append (λ c. report_for e c (e.bytes c)) (reports_of e) refl (λ c cs. refl)

none_escaping : (b : Bool) (s : CharacterSet)
    → reports_in (if b then [] else escape_step s ∷ []) ≡ []
none_escaping true s = refl
none_escaping false s = refl

none_at_end : (last : Bool) (s : CharacterSet)
    → reports_in (if last then steps_at_end s else []) ≡ []
none_at_end false s = refl
none_at_end true Ascii = refl
none_at_end true _ = refl

one_reported : (e : EncoderRule) (s : CharacterSet) (c : ℕ) (b : Option (List ℕ))
    → reports_by (char_step e s c b).report ≡ report_for e c b
one_reported e s c None = refl
one_reported e s c (Some b) = refl

steps_report : (e : EncoderRule) (last : Bool) (s : CharacterSet) (t : List ℕ)
    → reports_in (steps_of e last s t) ≡ reports_of e t
unfolding steps_of
steps_report e last s [] = none_at_end last s
steps_report e last s (c ∷ t) =
    let first_char = first_written_char c (e.bytes c) in
    let set_now = set_for e s first_char in
    let others = char_step e set_now c (e.bytes c) ∷ steps_of e last set_now t in
    reports_in-append (escape_steps_before e s first_char) others
    ∙ ap (λ x. x ++ reports_in others)
    (none_escaping (e.has s first_char) (e.designated first_char))
    ∙ rw (one_reported e set_now c (e.bytes c))
    (ap (λ x. report_for e c (e.bytes c) ++ x) (steps_report e last set_now t))

-- of steps that a call took
pub reports_are : {last : Bool} {old new : RawEncoderState} {src rest : List ℕ} {done : List Step}
    → Leaves last old new src rest done → reports_in done ≡ reports_of old.rule (step_chars done)
reports_are {last} {old} {new} {src} {rest} {done} leaves =
    append_cancel_right (reports_in done) (reports_of old.rule (step_chars done))
    (reports_of old.rule rest)
    (ap (λ t. reports_in done ++ t)
    (ap (λ e. reports_of e rest) (sym leaves.rule) ∙ sym (steps_report new.rule last new.set rest))
    ∙ sym (reports_in-append done (steps_from_state new last rest))
    ∙ ap reports_in (sym leaves.remaining) ∙ steps_report old.rule last old.set src
    ∙ ap (reports_of old.rule) leaves.reads ∙ reports_of-append old.rule (step_chars done) rest)

-- whether there is one

abbrev pub some_in : List ℕ → Bool
some_in [] = false
some_in (c ∷ t) = true

pub any_in : (ps : List Step) → any_reported ps ≡ some_in (reports_in ps)
any_in [] = refl
any_in (p ∷ ps) = rw (any_in ps) (elim p.report as (λ r. (is_some r || some_in (reports_in ps))
    ≡ some_in (reports_by r ++ reports_in ps)) [ None ↦ refl | Some c ↦ refl ])

any_of : (e : EncoderRule) (t : List ℕ) → any_unmappable e t ≡ some_in (reports_of e t)
any_of e [] = refl
any_of e (c ∷ t) =
    rw (any_of e t) (elim (e.bytes c) as (λ b. (not (is_some b) || some_in (reports_of e t))
    ≡ some_in (report_for e c b ++ reports_of e t)) [ None ↦ refl | Some b ↦ refl ])

pub any_reported_is : {last : Bool} {old new : RawEncoderState} {src rest : List ℕ}
    {done : List Step} → Leaves last old new src rest done
    → any_reported done ≡ any_unmappable old.rule (step_chars done)
any_reported_is {old = old} {done = done} leaves =
    any_in done ∙ ap some_in (reports_are leaves) ∙ sym (any_of old.rule (step_chars done))

-- the character that a call without replacement reports

pub none_in : (ps : List Step) → any_reported ps ≡ false → reports_in ps ≡ []
none_in [] e = refl
none_in (p ∷ ps) e =
    let both = parted p.report (any_reported ps) e in
    ap (λ r. reports_by r ++ reports_in ps) both.0 ∙ none_in ps both.1

pub one_in : (new : RawEncoderState) (rest : List ℕ) (last : Bool) (room : ℕ) {c : ℕ}
    {done : List Step} → EncoderStops new rest last room done (Unmappable c)
    → reports_in done ≡ c ∷ []
one_in new rest last room stops =
    ap reports_in stops.then_report ∙ reports_in-append stops.before (stops.report ∷ [])
    ∙ ap (λ t. t ++ (reports_by stops.report.report ++ []))
    (none_in stops.before stops.none_reported)
    ∙ append-nil (reports_by stops.report.report) ∙ ap reports_by stops.reported

-- whether a call writes a reference
pub replaced_is : {units_of : ℕ → List ℕ} {old new : RawEncoderState} {rest : List ℕ}
    {c : CallInMode}
    (call : IsCallInMode units_of old new rest c) → {kept : ℕ} → c.mode ≡ Html kept
    → c.replaced ≡ any_unmappable old.rule (step_chars call.done)
replaced_is call is_html = rw is_html at call.flag ∙ any_reported_is (leaves_in_mode call)

-- where no character is unmappable
pub none_unmappable : (e : EncoderRule) → MapsEveryCharacter e → (t : List ℕ)
    → any_unmappable e t ≡ false
none_unmappable e maps_all [] = refl
none_unmappable e maps_all (c ∷ t) = rw (maps_all c, none_unmappable e maps_all t) refl

pub any_unmappable-append : (e : EncoderRule) (a b : List ℕ)
    → any_unmappable e (a ++ b) ≡ (any_unmappable e a || any_unmappable e b)
any_unmappable-append e [] b = refl
any_unmappable-append e (c ∷ a) b =
    ap (λ x. not (is_some (e.bytes c)) || x) (any_unmappable-append e a b)
    ∙ sym (or_assoc (not (is_some (e.bytes c))) (any_unmappable e a) (any_unmappable e b))
