-- Lists of steps, one after another.
use Rattle.std.proofs.Common.{◌≡◌, ℕ, ◌||◌, is_some, List, [], ◌∷◌, ◌++◌, refl, ap, ◌∙◌, sym}
use Rattle.std.proofs.Common.{append_assoc, append-nil}
use Rattle.std.proofs.Math.Bool.{or_assoc}
use Rattle.enc_utf8.specs.Text.{units_of_text}
use Rattle.enc_encoder.specs.declared.character_set.CharacterSet.{CharacterSet}
use Rattle.enc_encoder.specs.Steps.{Step, step_chars, step_bytes, any_reported, set_after_steps}

-- What a list has is joined from what each element has, so of two lists it is joined too.
pub joined-append : {X : Type 0} (each : X → List ℕ) (all : List X → List ℕ) → all [] ≡ []
    → ((x : X) (xs : List X) → all (x ∷ xs) ≡ each x ++ all xs)
    → (xs ys : List X) → all (xs ++ ys) ≡ all xs ++ all ys
joined-append each all none more [] ys = rw none refl
joined-append each all none more (x ∷ xs) ys =
    rw (more x (xs ++ ys), more x xs, joined-append each all none more xs ys)
    (sym (append_assoc (each x) (all xs) (all ys)))

pub step_chars-append : (ps qs : List Step) → step_chars (ps ++ qs) ≡ step_chars ps ++ step_chars qs
step_chars-append = joined-append (λ (p : Step). p.reads) step_chars refl (λ p ps. refl)

pub step_bytes-append : (ps qs : List Step) → step_bytes (ps ++ qs) ≡ step_bytes ps ++ step_bytes qs
step_bytes-append = joined-append (λ (p : Step). p.bytes) step_bytes refl (λ p ps. refl)

pub any_reported-append : (ps qs : List Step)
    → any_reported (ps ++ qs) ≡ (any_reported ps || any_reported qs)
any_reported-append [] qs = refl
any_reported-append (p ∷ ps) qs =
    ap (λ b. is_some p.report || b) (any_reported-append ps qs)
    ∙ sym (or_assoc (is_some p.report) (any_reported ps) (any_reported qs))

pub set_after_steps-append : (s : CharacterSet) (ps qs : List Step)
    → set_after_steps s (ps ++ qs) ≡ set_after_steps (set_after_steps s ps) qs
set_after_steps-append s [] qs = refl
set_after_steps-append s (p ∷ ps) qs = set_after_steps-append p.set ps qs

-- one step more

pub step_bytes-one : (ps : List Step) (q : Step)
    → step_bytes (ps ++ q ∷ []) ≡ step_bytes ps ++ q.bytes
step_bytes-one ps q = step_bytes-append ps (q ∷ [])
    ∙ ap (λ t. step_bytes ps ++ t) (append-nil q.bytes)

pub units_of_text-append : (units_of : ℕ → List ℕ) (a b : List ℕ)
    → units_of_text units_of (a ++ b) ≡ units_of_text units_of a ++ units_of_text units_of b
units_of_text-append units_of =
    joined-append units_of (units_of_text units_of) refl (λ c cs. refl)
