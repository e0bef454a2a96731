-- What bytes determine.
use Rattle.std.proofs.Common.{◌≡◌, ℕ, Bool, true, false, List, [], ◌∷◌, ◌++◌, refl, ap, ◌∙◌, sym, append_assoc}
use Rattle.std.proofs.lemmas.List.{append-nil, append_cancel_left}
use Rattle.std.proofs.lemmas.Bool.{false≢true}
use Rattle.enc_decoder.specs.Sequence.{Sequence}
use Rattle.enc_decoder.specs.Remainder.{AreFirstSequences, Determines, AreDetermined, IsUndetermined}

-- with everything that may follow
pub determined_at : (last : Bool) (remaining : List ℕ → List Sequence) (x : List ℕ)
    (ss : List Sequence)
    → ((z : List ℕ) → (last ≡ true → z ≡ []) → AreFirstSequences ss (remaining (x ++ z)))
    → AreDetermined last remaining x ss
determined_at true remaining x ss begins =
    let first = begins [] (λ _. refl) in (first.0, ap remaining (sym (append-nil x)) ∙ first.1)
determined_at false remaining x ss begins = λ z _. begins z (λ n. absurd (false≢true n))

-- what determines more sequences determines fewer
pub determines_fewer : (remaining : List ℕ → List Sequence) (x : List ℕ) (ss ts : List Sequence)
    → Determines remaining x (ss ++ ts) → Determines remaining x ss
determines_fewer remaining x ss ts d z b = let first = d z b in
    (ts ++ first.0, first.1 ∙ append_assoc ss ts first.0)

-- the sequences after those that are done
pub begins_after : (done ss ts all : List Sequence) → all ≡ done ++ ts
    → AreFirstSequences (done ++ ss) all
    → AreFirstSequences ss ts
begins_after done ss ts all e first = (
  first.0,
  append_cancel_left done ts (ss ++ first.0)
      (sym e ∙ first.1 ∙ append_assoc done ss first.0),
)

-- If the remaining sequences are undetermined, the bytes before determine no more than those that
-- are done.
pub none_determined : (remaining rest : List ℕ → List Sequence) (x : List ℕ) (done : List Sequence)
    → ((y : List ℕ) → remaining (x ++ y) ≡ done ++ rest y) → IsUndetermined rest
    → (s : Sequence) → Determines remaining x (done ++ s ∷ []) → ⊥
none_determined remaining rest x done e u s d =
    u s (λ z b. begins_after done (s ∷ []) (rest z) (remaining (x ++ z)) (e z) (d z b))

-- the sequences determined after those that a call has done, by the bytes that follow
module _ (old new : List ℕ → List Sequence) (src rest : List ℕ) (done : List Sequence) where
  abbrev pub LeavesOff : Bool → Type 0
  LeavesOff last = (z : List ℕ) → (last ≡ true → z ≡ []) → old (src ++ z) ≡ done ++ new (rest ++ z)

  at_end : LeavesOff true → old src ≡ done ++ new rest
  at_end leaves_off = rw (append-nil src, append-nil rest) at (leaves_off [] (λ _. refl))

  pub determined_after : (last : Bool) → LeavesOff last → (ts : List Sequence)
      → AreDetermined last new rest ts → AreDetermined last old src (done ++ ts)
  determined_after true leaves_off ts first =
      (first.0, rw (at_end leaves_off, first.1, append_assoc done ts) refl)
  determined_after false leaves_off ts determines = λ z are_bytes.
      let first = determines z are_bytes in
      (first.0, rw (leaves_off z (λ e. absurd (false≢true e)), first.1, append_assoc done ts) refl)

  pub determined_past : (last : Bool) → LeavesOff last → (ts : List Sequence)
      → AreDetermined last old src (done ++ ts) → AreDetermined last new rest ts
  determined_past true leaves_off ts first =
      begins_after done ts (new rest) (old src) (at_end leaves_off) first
  determined_past false leaves_off ts determines = λ z are_bytes.
      begins_after done ts (new (rest ++ z)) (old (src ++ z))
      (leaves_off z (λ e. absurd (false≢true e))) (determines z are_bytes)
