-- The offsets and lengths of the malformed sequences among others.
use Rattle.std.proofs.Common.{◌≡◌, ℕ, ◌+◌, Bool, true, false, List, [], ◌∷◌, ◌++◌, length, refl, ap, ◌∙◌, arith}
use Rattle.std.proofs.lemmas.Bool.{or_parts}
use Rattle.std.proofs.lemmas.List.{length-append}
use Rattle.std.specs.Prelude.{if◌then◌else◌}
use Rattle.enc_decoder.specs.Sequence.{Sequence, sequence_bytes, is_malformed, any_malformed}
use Rattle.enc_stream.specs.Faults.{faults_from}

pub no_faults : (at : ℕ) (ss : List Sequence) → any_malformed ss ≡ false → faults_from at ss ≡ []
no_faults at [] none_malformed = refl
no_faults at (s ∷ ss) none_malformed =
    rw (or_parts (is_malformed s.kind) (any_malformed ss) none_malformed).0
    (no_faults (at + length s.bytes) ss
    (or_parts (is_malformed s.kind) (any_malformed ss) none_malformed).1)

if_front : {A : Type 0} (b : Bool) (x : A) (xs ys : List A)
    → (if b then x ∷ (xs ++ ys) else xs ++ ys) ≡ (if b then x ∷ xs else xs) ++ ys
if_front true x xs ys = refl
if_front false x xs ys = refl

-- those of some sequences, and of those that follow
pub faults-append : (at : ℕ) (ss ts : List Sequence) → faults_from at (ss ++ ts)
    ≡ faults_from at ss ++ faults_from (at + length (sequence_bytes ss)) ts
faults-append at [] ts =
    ap (λ n. faults_from n ts) (let at_start : at ≡ at + 0 = omega arith in at_start)
faults-append at (s ∷ ss) ts =
    let offset : at + length s.bytes + length (sequence_bytes ss)
    ≡ at + length (s.bytes ++ sequence_bytes ss) =
    omega (arith, length-append s.bytes (sequence_bytes ss)) in
    ap (λ x. if is_malformed s.kind then (at, length s.bytes) ∷ x else x)
    (faults-append (at + length s.bytes) ss ts
    ∙ ap (λ n. faults_from (at + length s.bytes) ss ++ faults_from n ts) offset)
    ∙ if_front (is_malformed s.kind) (at, length s.bytes) (faults_from (at + length s.bytes) ss)
    (faults_from (at + length (s.bytes ++ sequence_bytes ss)) ts)

-- A malformed sequence after others is the only fault.
pub last_fault : (at : ℕ) (ss : List Sequence) (s : Sequence) → any_malformed ss ≡ false
    → is_malformed s.kind ≡ true
    → faults_from at (ss ++ s ∷ []) ≡ (at + length (sequence_bytes ss), length s.bytes) ∷ []
last_fault at ss s none_malformed malformed =
    faults-append at ss (s ∷ [])
    ∙ ap (λ x. x ++ faults_from (at + length (sequence_bytes ss)) (s ∷ []))
    (no_faults at ss none_malformed)
    ∙ rw malformed refl
