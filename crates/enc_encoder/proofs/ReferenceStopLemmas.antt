-- Where steps fit, and why a call stops.
use Rattle.std.proofs.Common.{◌≡◌, ℕ, ◌+◌, ◌<◌, ◌≤◌, Bool, true, false, not, ◌&&◌, Option, Some, None, List, [], ◌∷◌}
use Rattle.std.proofs.Common.{◌++◌, length, refl, ap, ◌∙◌, sym, subst, arith, append-nil, length-append}
use Rattle.enc_encoder.specs.declared.character_set.CharacterSet.TheVariants.{Ascii}
use Rattle.enc_encoder.specs.EncoderRule.{RawEncoderState, is_escape_due}
use Rattle.enc_encoder.specs.Steps.{Step, step_bytes, bytes_with_references, any_reported, reference_for_report}
use Rattle.enc_encoder.proofs.TextLemmas.{parted}
use Rattle.enc_encoder.specs.ErrorMode.{StepFits, StepsFit, is_nothing_left}

-- After n bytes, the bytes of a step end at the limit or before it, and its reference before it.
abbrev pub FitsBefore : ℕ → ℕ → Option ℕ → ℕ → Type 0
FitsBefore limit n None len = n + len ≤ limit
FitsBefore limit n (Some c) len = n + len + length (reference_for_report (Some c)) < limit

abbrev pub AllBefore : ℕ → ℕ → List Step → Type 0
AllBefore limit n [] = Unit {0}
AllBefore limit n (p ∷ ps) =
    FitsBefore limit n p.report (length p.bytes)
    × AllBefore limit (n + length p.bytes + length (reference_for_report p.report)) ps

-- so it fits, whatever follows
weaker : (limit n len : ℕ) (r : Option ℕ) (ps : List Step) → FitsBefore limit n r len
    → StepFits limit n r len ps
weaker limit n len None ps h = h
weaker limit n len (Some c) [] h = omega arith
weaker limit n len (Some c) (p ∷ ps) h = h

-- where the steps after a step begin
after_step : (n : ℕ) (p : Step) (ps : List Step)
    → n + length (bytes_with_references (p ∷ ps))
    ≡ n + length p.bytes + length (reference_for_report p.report)
    + length (bytes_with_references ps)
after_step n p ps =
    let length_of_all = length-append (p.bytes ++ reference_for_report p.report)
    (bytes_with_references ps) in
    let length_of_first = length-append p.bytes (reference_for_report p.report) in
    omega arith

-- steps that fit, after others whose references end before the limit
pub fits-append : (limit n : ℕ) (ps qs : List Step) → AllBefore limit n ps
    → StepsFit limit (n + length (bytes_with_references ps)) qs
    → StepsFit limit n (ps ++ qs)
fits-append limit n [] qs all_before k = subst (λ (x : ℕ). StepsFit limit x qs) (omega arith) k
fits-append limit n (p ∷ ps) qs all_before k = (
  weaker limit n (length p.bytes) p.report (ps ++ qs) all_before.0,
  fits-append limit (n + length p.bytes + length (reference_for_report p.report)) ps qs all_before.1
      (subst (λ (x : ℕ). StepsFit limit x qs) (after_step n p ps) k),
)

pub before-append : (limit n : ℕ) (ps qs : List Step) → AllBefore limit n ps
    → AllBefore limit (n + length (bytes_with_references ps)) qs
    → AllBefore limit n (ps ++ qs)
before-append limit n [] qs all_before k = subst (λ (x : ℕ). AllBefore limit x qs) (omega arith) k
before-append limit n (p ∷ ps) qs all_before k = (
  all_before.0,
  before-append limit (n + length p.bytes + length (reference_for_report p.report)) ps qs
      all_before.1
      (subst (λ (x : ℕ). AllBefore limit x qs) (after_step n p ps) k),
)

pub all_fit : (limit n : ℕ) (ps : List Step) → AllBefore limit n ps → StepsFit limit n ps
all_fit limit n ps all_before =
    subst (StepsFit limit n) (append-nil ps) (fits-append limit n ps [] all_before tt)

-- steps without a report
pub unreported_before : (limit n : ℕ) (ps : List Step) → any_reported ps ≡ false
    → n + length (step_bytes ps) ≤ limit → AllBefore limit n ps
unreported_before limit n [] h k = tt
unreported_before limit n (p ∷ ps) h k =
    let both = parted p.report (any_reported ps) h in
    let length_of_all = length-append p.bytes (step_bytes ps) in (
      subst (λ (r : Option ℕ). FitsBefore limit n r (length p.bytes)) (sym both.0) (omega arith),
      subst (λ (r : Option ℕ). AllBefore limit
          (n + length p.bytes + length (reference_for_report r)) ps) (sym both.0)
          (unreported_before limit (n + length p.bytes + 0) ps both.1 (omega arith)),
    )

pub rest_is_read : (v : RawEncoderState) (rest : List ℕ) (last : Bool)
    → is_nothing_left v rest last ≡ true → [] ≡ rest
rest_is_read v [] last nothing_left = refl
rest_is_read v (c ∷ rest) last nothing_left = cc

-- all characters are read, and the text is ended where it is to end
pub none_left : (v : RawEncoderState) (rest : List ℕ) (last : Bool) → rest ≡ []
    → (last ≡ true → v.set ≡ Ascii) → is_nothing_left v rest last ≡ true
none_left v rest true e h = ap (λ r. is_nothing_left v r true) e
    ∙ ap (λ s. not (true && is_escape_due s)) (h refl)
none_left v rest false e h = ap (λ r. is_nothing_left v r false) e
