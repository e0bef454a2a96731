-- The bytes of a whole text, and the steps in which it is encoded.
use Rattle.std.proofs.Common.{◌≡◌, ℕ, zero, suc, ◌/◌, ◌%◌, inl, inr, Bool, true, false, ◌==◌, nat_lt, ◌||◌, is_some}
use Rattle.std.proofs.Common.{Option, Some, None, List, [], ◌∷◌, ◌++◌, refl, ap, ◌∙◌, sym, subst, arith, append_assoc}
use Rattle.std.proofs.Common.{append-nil, if◌then◌else◌, decimal}
use Rattle.std.specs.Fmt.{digits, digits_onto, digit_glyph}
use Rattle.std.proofs.lemmas.Bool.{false≢true}
use Rattle.std.proofs.lemmas.Bool.Decides.{nat_tests}
use Rattle.enc_encoder.specs.declared.character_set.CharacterSet.{CharacterSet}
use Rattle.enc_encoder.specs.declared.character_set.CharacterSet.TheVariants.{Ascii}
use Rattle.enc_input.specs.declared.encoder_result.EncoderResult.{EncoderResult}
use Rattle.enc_input.specs.declared.encoder_result.EncoderResult.TheVariants.{InputEmpty, OutputFull, Unmappable}
use Rattle.enc_encoder.specs.EncoderRule.{EncoderRule, RawEncoderState, IsLawfulEncoderRule, IsReferenceCharacter}
use Rattle.enc_encoder.specs.EncoderRule.{set_for}
use Rattle.enc_encoder.specs.Text.{escape_sequence, escape_before, escape_at_end, list_or_empty, bytes_after_text}
use Rattle.enc_encoder.specs.Text.{bytes_of_text, reference, with_reference, with_references, reference_after}
use Rattle.enc_encoder.specs.Text.{KeepsText}
use Rattle.enc_encoder.specs.Steps.{Step, escape_step, char_step, first_written_char, escape_steps_before, steps_at_end}
use Rattle.enc_encoder.specs.Steps.{steps_of, steps_from_state, step_bytes, any_reported, bytes_with_references}
use Rattle.enc_encoder.specs.Steps.{reference_for_report}
use Rattle.enc_encoder.specs.Call.{EncoderCall, EncoderStops, AtUnmappable}
use Rattle.enc_encoder.proofs.StepLemmas.{joined-append, step_bytes-one, any_reported-append}
use Rattle.enc_encoder.specs.Writes.{Leaves}
use Rattle.enc_encoder.proofs.LeavesLemmas.{whatever_follows}

-- references are made of `&`, `#`, `;` and digits

abbrev pub AreOfReferences : List ℕ → Type 0
AreOfReferences [] = Unit {0}
AreOfReferences (c ∷ t) = IsReferenceCharacter c × AreOfReferences t

glyph : (n : ℕ) → IsReferenceCharacter (digit_glyph false (n % 10))
glyph n =
    let is_digit : nat_lt (n % 10) 10 ≡ true = grind (arith, nat_tests) in
    rw is_digit (inr (inr (inr (omega arith, omega arith))))

digits_are : (k n : ℕ) (acc : List ℕ) → AreOfReferences acc
    → AreOfReferences (digits_onto k 10 false n acc)
digits_are zero n acc of_references = of_references
digits_are (suc k) n acc of_references = elim (n / 10 == 0) as
    (λ b. AreOfReferences (if b then digit_glyph false (n % 10)
    ∷ acc else digits_onto k 10 false (n / 10)
    (digit_glyph false (n % 10) ∷ acc))) [
      | true ↦ (glyph n, of_references)
      | false ↦ digits_are k (n / 10) (digit_glyph false (n % 10) ∷ acc) (glyph n, of_references)
    ]

decimal_is : (n : ℕ) → AreOfReferences (decimal n)
unfolding digits
decimal_is n = digits_are 64 n [] tt

with_end : (t : List ℕ) → AreOfReferences t → AreOfReferences (t ++ 0x3B ∷ [])
with_end [] of_references = (inr (inr (inl refl)), tt)
with_end (c ∷ t) of_references = (of_references.0, with_end t of_references.1)

-- the rest of a reference after `&`
pub reference_is : (c : ℕ) → AreOfReferences (0x23 ∷ (decimal c ++ 0x3B ∷ []))
reference_is c = (inr (inl refl), with_end (decimal c) (decimal_is c))

-- the bytes of a text, with the set carried forward
pub forward : EncoderRule → CharacterSet → List ℕ → List ℕ
forward e s [] = escape_at_end s
forward e s (c ∷ t) = escape_before e s c
    ++ (list_or_empty (e.bytes c) ++ forward e (set_for e s c) t)

escaped : (h : Bool) (x : CharacterSet) (ps : List Step)
    → bytes_with_references ((if h then [] else escape_step x ∷ []) ++ ps)
    ≡ (if h then [] else escape_sequence x) ++ bytes_with_references ps
escaped true x ps = refl
escaped false x ps = ap (λ t. t ++ bytes_with_references ps) (append-nil (escape_sequence x))

module _ (e : EncoderRule) (lawful : IsLawfulEncoderRule e) where
  carried : (s : CharacterSet) (u t : List ℕ)
      → bytes_after_text e s u t ≡ forward e (e.set_after s u) t
  unfolding forward
  carried s u [] = refl
  carried s u (c ∷ t) =
      ap (λ x. escape_before e (e.set_after s u) c ++ (list_or_empty (e.bytes c) ++ x))
      (carried s (u ++ c ∷ []) t ∙ ap (λ x. forward e x t) (lawful.set_after_more s u c))

  pub text_is_carried : (s : CharacterSet) (t : List ℕ) → bytes_of_text e s t ≡ forward e s t
  text_is_carried s t = carried s [] t ∙ ap (λ x. forward e x t) (lawful.set_after_none s)

  -- characters of references are written as they are, in a set that has them
  plain : (s : CharacterSet) → e.has s 0x26 ≡ true → (x : List ℕ) → AreOfReferences x → (t : List ℕ)
      → forward e s (x ++ t) ≡ x ++ forward e s t
  unfolding forward
  plain s has_ampersand [] of_references t = refl
  plain s has_ampersand (c ∷ x) of_references t =
      let has : e.has s c ≡ true = lawful.one_set s c of_references.0 ∙ has_ampersand in
      rw (has, lawful.references c of_references.0)
      (ap (λ y. c ∷ y) (plain s has_ampersand x of_references.1 t))

  has_then : (c : ℕ) (s : CharacterSet) (h : Bool) → e.has s c ≡ h → e.has (set_for e s c) c ≡ true
  has_then c s true has_is = rw has_is has_is
  has_then c s false has_is = rw has_is (lawful.designates c)

  -- the reference to a character, before any text
  refers : (s : CharacterSet) (c : ℕ) (t : List ℕ)
      → forward e s (reference c ++ t) ≡ escape_before e s 0x26
      ++ (reference c ++ forward e (set_for e s 0x26) t)
  unfolding forward
  refers s c t =
      rw (lawful.references 0x26 (inl refl))
      (ap (λ x. escape_before e s 0x26 ++ (0x26 ∷ x))
      (plain (set_for e s 0x26) (has_then 0x26 s (e.has s 0x26) refl)
      (0x23 ∷ (decimal c ++ 0x3B ∷ [])) (reference_is c) t))

  step_is : (s : CharacterSet) (c : ℕ) (t : List ℕ) (b : Option (List ℕ)) → e.bytes c ≡ b
      → ((s : CharacterSet) →
      bytes_with_references (steps_of e true s t) ≡ forward e s (with_references e t))
      → (let first_char = first_written_char c b in
      bytes_with_references (escape_steps_before e s first_char
      ++ (char_step e (set_for e s first_char) c b ∷ steps_of e true (set_for e s first_char) t))
      ≡ forward e s (with_reference e c b ++ with_references e t))
  unfolding forward
  step_is s c t (Some b) q h =
      escaped (e.has s c) (e.designated c)
      (char_step e (set_for e s c) c (Some b) ∷ steps_of e true (set_for e s c) t)
      ∙ rw (append-nil b, h (set_for e s c), q) refl
  step_is s c t None q h =
      escaped (e.has s 0x26) (e.designated 0x26)
      (char_step e (set_for e s 0x26) c None ∷ steps_of e true (set_for e s 0x26) t)
      ∙ ap (λ x. escape_before e s 0x26 ++ (reference (e.reported c) ++ x)) (h (set_for e s 0x26))
      ∙ sym (refers s (e.reported c) (with_references e t))

  last_is : (s : CharacterSet) → bytes_with_references (steps_at_end s) ≡ escape_at_end s
  last_is Ascii = refl
  last_is _ = refl

  steps_are_carried : (s : CharacterSet) (t : List ℕ)
      → bytes_with_references (steps_of e true s t) ≡ forward e s (with_references e t)
  unfolding steps_of forward
  steps_are_carried s [] = last_is s
  steps_are_carried s (c ∷ t) = step_is s c t (e.bytes c) refl (λ x. steps_are_carried x t)

  -- the bytes of a text with references in the place of unmappable characters
  pub steps_are_text : (s : CharacterSet) (t : List ℕ)
      → bytes_with_references (steps_of e true s t) ≡ bytes_of_text e s (with_references e t)
  steps_are_text s t = steps_are_carried s t ∙ sym (text_is_carried s (with_references e t))

pub bytes_with_references-append : (ps qs : List Step)
    → bytes_with_references (ps ++ qs) ≡ bytes_with_references ps ++ bytes_with_references qs
bytes_with_references-append =
    joined-append (λ (p : Step). p.bytes ++ reference_for_report p.report) bytes_with_references
    refl (λ p ps. refl)

pub parted : (r : Option ℕ) (x : Bool) → (is_some r || x) ≡ false → (r ≡ None) × (x ≡ false)
parted None x h = (refl, h)
parted (Some c) x h = absurd (false≢true (sym h))

pub unreferred : (ps : List Step) → any_reported ps ≡ false
    → bytes_with_references ps ≡ step_bytes ps
unreferred [] h = refl
unreferred (p ∷ ps) h =
    let both = parted p.report (any_reported ps) h in
    ap (λ r. (p.bytes ++ reference_for_report r) ++ bytes_with_references ps) both.0
    ∙ ap (λ t. t ++ bytes_with_references ps) (append-nil p.bytes)
    ∙ ap (λ t. p.bytes ++ t) (unreferred ps both.1)

-- A report is the last step of a call that reports one: the bytes are those before it.

pub reported_bytes : {done : List Step} {c : ℕ} (at : AtUnmappable done c)
    → step_bytes done ≡ step_bytes at.before
reported_bytes at =
    rw (at.then_report, step_bytes-one at.before at.report, at.none_written)
    (append-nil (step_bytes at.before))

pub is_reported : {done : List Step} {c : ℕ} → AtUnmappable done c → any_reported done ≡ true
is_reported at =
    let parts = any_reported-append at.before (at.report ∷ []) in
    rw (at.then_report, parts, at.none_reported, at.reported) refl

-- the bytes of the steps that a call took, with the reference that its caller writes
bytes_by_result : (new : RawEncoderState) (rest : List ℕ) (last : Bool) (room : ℕ)
    (done : List Step) (result : EncoderResult) → EncoderStops new rest last room done result
    → bytes_with_references done ≡ step_bytes done ++ reference_after result
bytes_by_result new rest last room done InputEmpty stops =
    unreferred done stops.none_reported ∙ sym (append-nil (step_bytes done))
bytes_by_result new rest last room done OutputFull stops =
    unreferred done stops.none_reported ∙ sym (append-nil (step_bytes done))
bytes_by_result new rest last room done (Unmappable c) stops =
    let plain = unreferred stops.before stops.none_reported in
    ap bytes_with_references stops.then_report
    ∙ bytes_with_references-append stops.before (stops.report ∷ [])
    ∙ rw (plain, stops.none_written, stops.reported, append-nil (reference c), reported_bytes stops)
    refl

pub done_is : {old new : RawEncoderState} {src rest : List ℕ} {last : Bool} {room : ℕ}
    {result : EncoderResult} {wrote : List ℕ}
    (call : EncoderCall old new src rest last room result wrote)
    → bytes_with_references call.done ≡ wrote ++ reference_after result
done_is {new = new} {rest = rest} {last} {room} {result} call =
    bytes_by_result new rest last room call.done result call.stops
    ∙ ap (λ t. t ++ reference_after result) (sym call.bytes)

pub keeps_text : {last : Bool} {old new : RawEncoderState} {src rest : List ℕ} {done : List Step}
    → Leaves last old new src rest done → IsLawfulEncoderRule old.rule
    → (result : EncoderResult) (wrote : List ℕ)
    → bytes_with_references done ≡ wrote ++ reference_after result
    → KeepsText old new src rest last result wrote
keeps_text {old = old} {new} {src} {rest} {done} leaves lawful result wrote bytes_are z none =
    let lawful_after : IsLawfulEncoderRule new.rule =
    subst IsLawfulEncoderRule (sym leaves.rule) lawful in
    sym (steps_are_text old.rule lawful old.set (src ++ z))
    ∙ ap bytes_with_references (whatever_follows leaves z none)
    ∙ bytes_with_references-append done (steps_from_state new true (rest ++ z))
    ∙ rw (bytes_are, steps_are_text new.rule lawful_after new.set (rest ++ z)) refl
    ∙ append_assoc wrote (reference_after result)
    (bytes_of_text new.rule new.set (with_references new.rule (rest ++ z)))
