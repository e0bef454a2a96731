-- Steps that end in a report are those of the characters read, whatever follows these.
use Rattle.std.proofs.Common.{◌≡◌, ℕ, Bool, true, false, is_some, Option, Some, None, List, [], ◌∷◌, ◌++◌}
use Rattle.std.proofs.Common.{refl, ap, ◌∙◌, sym, subst, append-nil, if◌then◌else◌, inl}
use Rattle.enc_encoder.specs.declared.character_set.CharacterSet.{CharacterSet}
use Rattle.enc_encoder.specs.EncoderRule.{EncoderRule, RawEncoderState, IsLawfulEncoderRule, set_for}
use Rattle.enc_encoder.specs.Steps.{Step, escape_step, char_step, first_written_char, steps_of, steps_from_state}
use Rattle.enc_encoder.specs.Steps.{step_chars, set_after_steps, bytes_with_references}
use Rattle.enc_encoder.specs.Text.{reference, bytes_of_text, with_references}
use Rattle.enc_encoder.specs.ErrorMode.{ends_in_report}
use Rattle.enc_encoder.specs.Writes.{Leaves}
use Rattle.enc_encoder.proofs.TextLemmas.{AreOfReferences, reference_is, steps_are_text}

-- Steps that end in a report are those of a front of a text.
record Parts (e : EncoderRule) (s : CharacterSet) (src : List ℕ) (done : List Step) : Type 0 where
  front : List ℕ
  steps : steps_of e false s front ≡ done
  -- the character set after them has the characters of references
  has : e.has (set_after_steps s done) 0x26 ≡ true

-- the step of a character, and those after it
record CharParts (e : EncoderRule) (s : CharacterSet) (p : Step) (done : List Step) : Type 0 where
  front : List ℕ
  steps : p ∷ steps_of e false s front ≡ done
  has : e.has (set_after_steps s done) 0x26 ≡ true

char_reads : (e : EncoderRule) (s : CharacterSet) (c : ℕ) (b : Option (List ℕ))
    → (char_step e s c b).reads ≡ c ∷ []
char_reads e s c None = refl
char_reads e s c (Some b) = refl

escaped_chars : (h : Bool) (x : CharacterSet) (ps : List Step)
    → step_chars ((if h then [] else escape_step x ∷ []) ++ ps) ≡ step_chars ps
escaped_chars true x ps = refl
escaped_chars false x ps = refl

module _ (e : EncoderRule) where
  -- the characters that the steps of a text read
  chars_of : (t : List ℕ) (s : CharacterSet) → step_chars (steps_of e false s t) ≡ t
  unfolding steps_of
  chars_of [] s = refl
  chars_of (c ∷ t) s =
      let first_char = first_written_char c (e.bytes c) in
      let set_now = set_for e s first_char in
      let others = steps_of e false set_now t in
      escaped_chars (e.has s first_char) (e.designated first_char)
      (char_step e set_now c (e.bytes c) ∷ others)
      ∙ ap (λ x. x ++ step_chars others) (char_reads e set_now c (e.bytes c))
      ∙ ap (λ x. c ∷ x) (chars_of t set_now)

module _ (e : EncoderRule) (lawful : IsLawfulEncoderRule e) where
  has_then : (c : ℕ) (s : CharacterSet) (h : Bool) → e.has s c ≡ h → e.has (set_for e s c) c ≡ true
  has_then c s true has_is = rw has_is has_is
  has_then c s false has_is = rw has_is (lawful.designates c)

  -- a report is in a set that has the characters of references
  report_set : (s : CharacterSet) (c : ℕ) (b : Option (List ℕ))
      → is_some (char_step e (set_for e s (first_written_char c b)) c b).report ≡ true
      → e.has (char_step e (set_for e s (first_written_char c b)) c b).set 0x26 ≡ true
  report_set s c None is_report = has_then 0x26 s (e.has s 0x26) refl
  report_set s c (Some b) is_report = cc

  after_char : (s : CharacterSet) (c : ℕ) (t : List ℕ) (q : Step) (qs x : List Step)
      → char_step e (set_for e s (first_written_char c (e.bytes c))) c (e.bytes c)
      ∷ steps_of e false (set_for e s (first_written_char c (e.bytes c))) t ≡ q ∷ (qs ++ x)
      → ends_in_report (q ∷ qs) ≡ true
      → ((done y : List Step)
      → steps_of e false (set_for e s (first_written_char c (e.bytes c))) t ≡ done ++ y
      → ends_in_report done ≡ true
      → Parts e (set_for e s (first_written_char c (e.bytes c))) t done)
      → CharParts e (set_for e s (first_written_char c (e.bytes c)))
      (char_step e (set_for e s (first_written_char c (e.bytes c))) c (e.bytes c)) (q ∷ qs)
  unfolding steps_of
  after_char s c t q [] x same ends later =
      let set_now = set_for e s (first_written_char c (e.bytes c)) in
      let step = char_step e set_now c (e.bytes c) in
      let first : step ≡ q = cc in
      record {
        front = [];
        steps = ap (λ (y : Step). y ∷ []) first;
        has = subst (λ (y : Step). e.has y.set 0x26 ≡ true) first
            (report_set s c (e.bytes c)
            (subst (λ (y : Step). is_some y.report ≡ true) (sym first) ends));
      }
  after_char s c t q (r ∷ rs) x same ends later =
      let set_now = set_for e s (first_written_char c (e.bytes c)) in
      let step = char_step e set_now c (e.bytes c) in
      let first : step ≡ q = cc in
      let others : steps_of e false set_now t ≡ (r ∷ rs) ++ x = cc in
      let parts = later (r ∷ rs) x others ends in
      record {
        front = parts.front;
        steps = ap (λ (y : Step). y ∷ steps_of e false set_now parts.front) first
            ∙ ap (λ y. q ∷ y) parts.steps;
        has = parts.has;
      }

  with_escape : (s : CharacterSet) (c : ℕ) (t : List ℕ) (h : Bool)
      → e.has s (first_written_char c (e.bytes c)) ≡ h → (done x : List Step)
      → (if h then [] else escape_step (e.designated (first_written_char c (e.bytes c))) ∷ [])
      ++ (char_step e (set_for e s (first_written_char c (e.bytes c))) c (e.bytes c)
      ∷ steps_of e false (set_for e s (first_written_char c (e.bytes c))) t) ≡ done ++ x
      → ends_in_report done ≡ true
      → ((done y : List Step)
      → steps_of e false (set_for e s (first_written_char c (e.bytes c))) t ≡ done ++ y
      → ends_in_report done ≡ true
      → Parts e (set_for e s (first_written_char c (e.bytes c))) t done)
      → Parts e s (c ∷ t) done
  unfolding steps_of
  with_escape s c t h has_is [] x same ends later = cc
  with_escape s c t true has_is (q ∷ qs) x same ends later =
      let first_char = first_written_char c (e.bytes c) in
      let set_now = set_for e s first_char in
      let step = char_step e set_now c (e.bytes c) in
      let one = after_char s c t q qs x same ends later in
      record {
        front = c ∷ one.front;
        steps = ap (λ b. (if b then [] else escape_step (e.designated first_char) ∷ [])
            ++ (step ∷ steps_of e false set_now one.front)) has_is ∙ one.steps;
        has = one.has;
      }
  with_escape s c t false has_is (q ∷ []) x same ends later =
      let first_char = first_written_char c (e.bytes c) in
      let first : escape_step (e.designated first_char) ≡ q = cc in
      let none : false ≡ true =
      subst (λ (y : Step). is_some y.report ≡ true) (sym first) ends in
      cc
  with_escape s c t false has_is (q ∷ r ∷ rs) x same ends later =
      let first_char = first_written_char c (e.bytes c) in
      let set_now = set_for e s first_char in
      let step = char_step e set_now c (e.bytes c) in
      let first : escape_step (e.designated first_char) ≡ q = cc in
      let others : step ∷ steps_of e false set_now t ≡ r ∷ (rs ++ x) = cc in
      let one = after_char s c t r rs x others ends later in
      record {
        front = c ∷ one.front;
        steps = ap (λ b. (if b then [] else escape_step (e.designated first_char) ∷ [])
            ++ (step ∷ steps_of e false set_now one.front)) has_is
            ∙ ap (λ (y : Step). y ∷ (step ∷ steps_of e false set_now one.front)) first
            ∙ ap (λ y. q ∷ y) one.steps;
        has = one.has;
      }

  parts : (src : List ℕ) (s : CharacterSet) (done x : List Step)
      → steps_of e false s src ≡ done ++ x → ends_in_report done ≡ true → Parts e s src done
  unfolding steps_of
  parts [] s [] x same ends = cc
  parts [] s (q ∷ qs) x same ends = cc
  parts (c ∷ t) s done x same ends =
      let first_char = first_written_char c (e.bytes c) in
      with_escape s c t (e.has s first_char) refl done x same ends
      (λ ps y later end. parts t (set_for e s first_char) ps y later end)

  -- the characters of references are written as they are, in a set that has them
  are_written : (s : CharacterSet) → e.has s 0x26 ≡ true → (x : List ℕ) → AreOfReferences x
      → (t : List ℕ) → bytes_with_references (steps_of e true s (x ++ t))
      ≡ x ++ bytes_with_references (steps_of e true s t)
  unfolding steps_of
  are_written s has [] of_references t = refl
  are_written s has (c ∷ x) of_references t =
      let has_this : e.has s c ≡ true = lawful.one_set s c of_references.0 ∙ has in
      rw (lawful.references c of_references.0, has_this)
      (ap (λ y. c ∷ y) (are_written s has x of_references.1 t))

  pub reference_written : (s : CharacterSet) → e.has s 0x26 ≡ true → (c : ℕ) (t : List ℕ)
      → bytes_of_text e s (with_references e (reference c ++ t))
      ≡ reference c ++ bytes_of_text e s (with_references e t)
  reference_written s has c t =
      sym (steps_are_text e lawful s (reference c ++ t))
      ∙ are_written s has (reference c) (inl refl, reference_is c) t
      ∙ ap (λ y. reference c ++ y) (steps_are_text e lawful s t)

module _ {old new : RawEncoderState} {src rest : List ℕ} {done : List Step}
    (lawful : IsLawfulEncoderRule old.rule) (leaves : Leaves false old new src rest done)
    (ends : ends_in_report done ≡ true) where
  its_parts : Parts old.rule old.set src done
  its_parts = parts old.rule lawful src old.set done (steps_from_state new false rest)
      leaves.remaining ends

  -- the same steps for the characters read alone
  pub leaves_front : Leaves false old new (step_chars done) [] done
  unfolding steps_of
  leaves_front =
      let front_is : step_chars done ≡ its_parts.front =
      ap step_chars (sym its_parts.steps) ∙ chars_of old.rule its_parts.front old.set in
      record {
        reads = sym (append-nil (step_chars done));
        remaining = ap (steps_of old.rule false old.set) front_is ∙ its_parts.steps
            ∙ sym (append-nil done);
        rule = leaves.rule;
        set = leaves.set;
      }

  -- the set after them has the characters of references
  pub has_references : old.rule.has new.set 0x26 ≡ true
  has_references = ap (λ s. old.rule.has s 0x26) leaves.set ∙ its_parts.has
