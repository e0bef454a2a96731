-- Lists of sequences that follow one another.
use Rattle.std.proofs.Common.{◌≡◌, ℕ, List, [], ◌∷◌, ◌++◌, refl, sym, subst, append_assoc}
use Rattle.std.proofs.Common.{◌||◌}
use Rattle.std.proofs.lemmas.List.{append-nil}
pub use Rattle.std.proofs.Math.Bool.{or_assoc, or-false as or_false, or-true as or_true}
use Rattle.enc_utf8.specs.Text.{AreScalars, units_of_text}
use Rattle.enc_decoder.specs.Sequence.{Sequence, sequence_bytes, sequence_text, is_malformed, any_malformed, set_after}
use Rattle.enc_utf8.proofs.ScalarLemmas.{scalars-append}

pub sequence_bytes-append : (ss ts : List Sequence)
    → sequence_bytes (ss ++ ts) ≡ sequence_bytes ss ++ sequence_bytes ts
sequence_bytes-append [] ts = refl
sequence_bytes-append (s ∷ ss) ts =
    rw (sequence_bytes-append ss ts, append_assoc s.bytes (sequence_bytes ss)) refl

pub sequence_text-append : (ss ts : List Sequence)
    → sequence_text (ss ++ ts) ≡ sequence_text ss ++ sequence_text ts
sequence_text-append [] ts = refl
sequence_text-append (s ∷ ss) ts =
    rw (sequence_text-append ss ts, append_assoc s.text (sequence_text ss)) refl

pub units_of_text-append : (units_of : ℕ → List ℕ) (a b : List ℕ)
    → units_of_text units_of (a ++ b) ≡ units_of_text units_of a ++ units_of_text units_of b
units_of_text-append units_of [] b = refl
units_of_text-append units_of (c ∷ cs) b =
    rw (units_of_text-append units_of cs b, append_assoc (units_of c)) refl

-- the units of two lists of sequences
pub units-append : (units_of : ℕ → List ℕ) (ss ts : List Sequence)
    → units_of_text units_of (sequence_text (ss ++ ts)) ≡ units_of_text units_of (sequence_text ss)
    ++ units_of_text units_of (sequence_text ts)
units-append units_of ss ts = rw (sequence_text-append, units_of_text-append) refl

pub any_malformed-append : (ss ts : List Sequence)
    → any_malformed (ss ++ ts) ≡ (any_malformed ss || any_malformed ts)
any_malformed-append [] ts = refl
any_malformed-append (s ∷ ss) ts = rw (any_malformed-append ss ts, or_assoc) refl

pub set_after-append : (set : ℕ) (ss ts : List Sequence)
    → set_after set (ss ++ ts) ≡ set_after (set_after set ss) ts
set_after-append set [] ts = refl
set_after-append set (s ∷ ss) ts = set_after-append s.set ss ts

pub scalars_of-append : (ss ts : List Sequence) → AreScalars (sequence_text ss)
    → AreScalars (sequence_text ts) → AreScalars (sequence_text (ss ++ ts))
scalars_of-append ss ts scalars also =
    rw sequence_text-append (scalars-append (sequence_text ss) (sequence_text ts) scalars also)

-- one sequence more

pub scalars_of-one : (ss : List Sequence) (s : Sequence) → AreScalars (sequence_text ss)
    → AreScalars s.text → AreScalars (sequence_text (ss ++ s ∷ []))
scalars_of-one ss s h k =
    scalars_of-append ss (s ∷ []) h (subst AreScalars (sym (append-nil s.text)) k)

pub sequence_bytes-one : (ss : List Sequence) (s : Sequence)
    → sequence_bytes (ss ++ s ∷ []) ≡ sequence_bytes ss ++ s.bytes
sequence_bytes-one ss s = rw (sequence_bytes-append, append-nil) refl

pub units-one : (units_of : ℕ → List ℕ) (ss : List Sequence) (s : Sequence)
    → units_of_text units_of (sequence_text (ss ++ s ∷ []))
    ≡ units_of_text units_of (sequence_text ss) ++ units_of_text units_of s.text
units-one units_of ss s = rw (units-append, append-nil) refl

pub any_malformed-one : (ss : List Sequence) (s : Sequence)
    → any_malformed (ss ++ s ∷ []) ≡ (any_malformed ss || is_malformed s.kind)
any_malformed-one ss s = rw (any_malformed-append, or_false) refl
