-- The bytes of steps, with those of a policy for each report.
use Rattle.std.proofs.Common.{◌≡◌, ℕ, ◌+◌, ◌≤◌, Bool, true, false, is_some, Option, Some, None, List, [], ◌∷◌, ◌++◌}
use Rattle.std.proofs.Common.{refl, ap, ◌∙◌, sym, append_assoc, append-nil, arith, length, length-append, length-drop}
use Rattle.std.proofs.Common.{take, drop}
use Rattle.std.proofs.lemmas.List.{length-take-le}
use Rattle.std.proofs.Math.Seq.{take-append_seam}
use Rattle.enc_encoder.specs.declared.character_set.CharacterSet.{CharacterSet}
use Rattle.enc_encoder.specs.EncoderRule.{EncoderRule, RawEncoderState, set_for}
use Rattle.enc_encoder.specs.ErrorMode.{ends_in_report}
use Rattle.enc_encoder.specs.Steps.{Step, escape_steps_before, char_step, first_written_char, steps_of}
use Rattle.enc_encoder.specs.Steps.{steps_from_state, step_bytes, any_reported, set_after_steps}
use Rattle.enc_encoder.specs.Steps.{bytes_with_references, reference_for_report}
use Rattle.enc_encoder.specs.Text.{reference}
use Rattle.enc_encoder.specs.Writes.{Leaves}
use Rattle.enc_encoder.proofs.StepLemmas.{joined-append, set_after_steps-append}
use Rattle.enc_encoder.proofs.TextLemmas.{parted}
use Rattle.enc_encoder.proofs.UnmappableLemmas.{reports_by, reports_in}
use Rattle.enc_writer.specs.Policies.{bytes_for_report, bytes_with}

pub bytes_with-append : (put : ℕ → List ℕ) (ps qs : List Step)
    → bytes_with put (ps ++ qs) ≡ bytes_with put ps ++ bytes_with put qs
bytes_with-append put =
    joined-append (λ (p : Step). p.bytes ++ bytes_for_report put p.report) (bytes_with put) refl
    (λ p ps. refl)

reference_is_put : (r : Option ℕ) → bytes_for_report reference r ≡ reference_for_report r
reference_is_put None = refl
reference_is_put (Some c) = refl

-- decimal references
pub bytes_with-references : (ps : List Step) → bytes_with reference ps ≡ bytes_with_references ps
bytes_with-references [] = refl
bytes_with-references (p ∷ ps) =
    ap (λ x. (p.bytes ++ x) ++ bytes_with reference ps) (reference_is_put p.report)
    ∙ ap (λ x. (p.bytes ++ reference_for_report p.report) ++ x) (bytes_with-references ps)

-- no character is reported
pub bytes_with-none : (put : ℕ → List ℕ) (ps : List Step) → any_reported ps ≡ false
    → bytes_with put ps ≡ step_bytes ps
bytes_with-none put [] none = refl
bytes_with-none put (p ∷ ps) none =
    let both = parted p.report (any_reported ps) none in
    ap (λ r. (p.bytes ++ bytes_for_report put r) ++ bytes_with put ps) both.0
    ∙ ap (λ t. t ++ bytes_with put ps) (append-nil p.bytes)
    ∙ ap (λ t. p.bytes ++ t) (bytes_with-none put ps both.1)

-- steps that end in a report report a character
some_at_end : (ps : List Step) → ends_in_report ps ≡ true → reports_in ps ≡ [] → ⊥
some_at_end [] ends none = cc
some_at_end (p ∷ []) ends none = at_last p.report ends none
  where
    at_last : (r : Option ℕ) → is_some r ≡ true → reports_by r ++ [] ≡ [] → ⊥
    at_last None ends none = cc
    at_last (Some d) ends none = cc
some_at_end (p ∷ q ∷ ps) ends none =
    at_first p.report none (λ later. some_at_end (q ∷ ps) ends later)
  where
    at_first : (r : Option ℕ) → reports_by r ++ reports_in (q ∷ ps) ≡ []
        → (reports_in (q ∷ ps) ≡ [] → ⊥) → ⊥
    at_first None none later = later none
    at_first (Some d) none later = cc

-- one is, at the end
pub bytes_with-one : (put : ℕ → List ℕ) (c : ℕ) (ps : List Step) → ends_in_report ps ≡ true
    → reports_in ps ≡ c ∷ [] → bytes_with put ps ≡ step_bytes ps ++ put c
bytes_with-one put c [] ends one = cc
bytes_with-one put c (p ∷ []) ends one = at_report p.report ends one
  where
    at_report : (r : Option ℕ) → is_some r ≡ true → reports_by r ++ [] ≡ c ∷ []
        → (p.bytes ++ bytes_for_report put r) ++ [] ≡ (p.bytes ++ []) ++ put c
    at_report None ends one = cc
    at_report (Some d) ends one =
        let same : d ≡ c = cc in
        append-nil (p.bytes ++ put d) ∙ ap (λ x. p.bytes ++ put x) same
        ∙ ap (λ t. t ++ put c) (sym (append-nil p.bytes))
bytes_with-one put c (p ∷ q ∷ ps) ends one =
    at_report p.report one
    (λ later. bytes_with-one put c (q ∷ ps) ends later)
  where
    others : List Step
    others = q ∷ ps

    at_report : (r : Option ℕ) → reports_by r ++ reports_in others ≡ c ∷ []
        → (reports_in others ≡ c ∷ [] → bytes_with put others ≡ step_bytes others ++ put c)
        → (p.bytes ++ bytes_for_report put r) ++ bytes_with put others
        ≡ (p.bytes ++ step_bytes others) ++ put c
    at_report None one later =
        ap (λ t. t ++ bytes_with put others) (append-nil p.bytes)
        ∙ ap (λ t. p.bytes ++ t) (later one)
        ∙ sym (append_assoc p.bytes (step_bytes others) (put c))
    at_report (Some d) one later =
        let none : reports_in others ≡ [] = cc in
        absurd (some_at_end others ends none)

-- Whatever follows

after_char : (e : EncoderRule) (s s' : CharacterSet) (c : ℕ) (b : Option (List ℕ)) (ps : List Step)
    → set_after_steps s (char_step e s' c b ∷ ps) ≡ set_after_steps s' ps
after_char e s s' c None ps = refl
after_char e s s' c (Some b) ps = refl

pub steps_of-append : (e : EncoderRule) (last : Bool) (s : CharacterSet) (t z : List ℕ)
    → steps_of e last s (t ++ z) ≡ steps_of e false s t
    ++ steps_of e last (set_after_steps s (steps_of e false s t)) z
unfolding steps_of
steps_of-append e last s [] z = refl
steps_of-append e last s (c ∷ t) z =
    let first_char = first_written_char c (e.bytes c) in
    let set_now = set_for e s first_char in
    let before = escape_steps_before e s first_char in
    let step = char_step e set_now c (e.bytes c) in
    let front = steps_of e false set_now t in
    let set : set_after_steps s (before ++ (step ∷ front)) ≡ set_after_steps set_now front =
    set_after_steps-append s before (step ∷ front)
    ∙ after_char e (set_after_steps s before) set_now c (e.bytes c) front in
    rw (set, steps_of-append e last set_now t z)
    (sym (append_assoc before (step ∷ front) (steps_of e last (set_after_steps set_now front) z)))

pub steps_then : {old new : RawEncoderState} {src rest : List ℕ} {done : List Step}
    → Leaves false old new src rest done → (last : Bool) (z : List ℕ)
    → steps_from_state old last (src ++ z) ≡ done ++ steps_from_state new last (rest ++ z)
steps_then {old} {new} {src} {rest} {done} leaves last z =
    let remaining = steps_from_state new false rest in
    let set_after : set_after_steps old.set (done ++ remaining)
    ≡ set_after_steps new.set remaining =
    set_after_steps-append old.set done remaining
    ∙ ap (λ s. set_after_steps s remaining) (sym leaves.set) in
    steps_of-append old.rule last old.set src z
    ∙ rw (leaves.remaining, set_after, ← leaves.rule, steps_of-append new.rule last new.set rest z)
    (append_assoc done remaining (steps_of new.rule last (set_after_steps new.set remaining) z))

-- bytes put after those held in a buffer
module _ (filled n : ℕ) (before : List ℕ) {after : List ℕ} (bytes : List ℕ)
    (within : filled ≤ length before)
    (count : n ≡ length bytes)
    (onto : after ≡ take filled before ++ (bytes ++ drop (filled + n) before)) where
  pub held_is_put : take (filled + n) after ≡ take filled before ++ bytes
  held_is_put =
      let front = take filled before ++ bytes in
      let len : filled + n ≡ length front = omega (
        arith,
        count,
        length-append (take filled before) bytes,
        length-take-le filled before within,
      ) in
      ap (take (filled + n)) (onto
      ∙ sym (append_assoc (take filled before) bytes (drop (filled + n) before)))
      ∙ ap (λ i. take i (front ++ drop (filled + n) before)) len
      ∙ take-append_seam front (drop (filled + n) before)

  pub length_is_kept : filled + n ≤ length before → length after ≡ length before
  length_is_kept fits = ap length onto ∙ omega (
    arith,
    count,
    fits,
    length-append (take filled before) (bytes ++ drop (filled + n) before),
    length-append bytes (drop (filled + n) before),
    length-take-le filled before within,
    length-drop (filled + n) before,
  )
