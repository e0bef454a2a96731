-- Runs in general: a call more, and how many calls a run has whose calls each take it nearer to its
-- end.
use Rattle.std.proofs.Common.{◌≡◌, ℕ, ◌+◌, ◌<◌, ◌≤◌, ◌⊎◌, inl, inr, Bool, true, false, List, [], ◌∷◌, ◌++◌, length}
use Rattle.std.proofs.Common.{take, refl, ap, ◌∙◌, sym, subst, arith, get_or}
use Rattle.std.specs.List.{All}
use Rattle.encoding_rs.specs.Runs.{IsRun}
use Rattle.std.proofs.lemmas.Bool.{false≢true}
use Rattle.std.proofs.lemmas.List.{take_more, length-take}
use Rattle.std.proofs.lemmas.List.Elements.{All-head, All-tail, All-take}

module _ {C S : Type 0} (Advances : C → S → S → Type 0) where
  run-one : (calls : List C) (a : S) {call : C} {b c : S} → IsRun Advances calls a b
      → Advances call b c → IsRun Advances (calls ++ call ∷ []) a c
  run-one [] a {call = call} {c = c} run advances =
      (c, subst (λ x. Advances call x c) (sym run) advances, refl)
  run-one (first ∷ calls) a run advances = (run.0, run.1, run-one calls run.0 run.2 advances)

  -- one more call of a list
  pub run-next : (calls : List C) {n k : ℕ} (d : C) (a : S) {b c : S} → n ≡ k → k < length calls
      → IsRun Advances (take n calls) a b → Advances (get_or calls k d) b c
      → IsRun Advances (take (n + 1) calls) a c
  run-next calls {n = n} d a {b = b} {c = c} index_is inside run advances =
      subst (λ x. IsRun Advances x a c) (sym (take_more calls n d (rw index_is inside)))
      (run-one (take n calls) a run
      (subst (λ i. Advances (get_or calls i d) b c) (sym index_is) advances))

-- Each of these calls ends a run or takes it nearer to its end, and none is made after the end.
module _ {C S : Type 0} (Advances : C → S → S → Type 0) (CanGoOn : C → Type 0) (Keeps : S → Type 0)
    (has_ended : S → Bool) (left : S → ℕ)
    (not_ended : (call : C) (a b : S) → Advances call a b → has_ended a ≡ false)
    (nearer : (call : C) (a b : S) → Keeps a → CanGoOn call → Advances call a b
    → Keeps b × ((has_ended b ≡ true) ⊎ (left b < left a))) where
  none_after : (calls : List C) (a b : S) → IsRun Advances calls a b → has_ended a ≡ true
      → (length calls ≡ 0) × (has_ended b ≡ true)
  none_after [] a b run ended = (refl, ap has_ended (sym run) ∙ ended)
  none_after (call ∷ calls) a b run ended =
      absurd (false≢true (sym (not_ended call a run.0 run.1) ∙ ended))

  comes_to_end : (calls : List C) (a b : S) → Keeps a → All CanGoOn calls
      → IsRun Advances calls a b
      → (length calls ≤ left a + 1) × ((has_ended b ≡ true) ⊎ (length calls ≤ left a))
  comes_to_end [] a b keeps can_go_on run = (omega arith, inr (omega arith))
  comes_to_end (call ∷ calls) a b keeps can_go_on run =
      let first = nearer call a run.0 keeps (All-head CanGoOn call calls can_go_on) run.1 in
      elim first.1 [
        | inl ended ↦ (let none = none_after calls run.0 b run.2 ended in
            (omega (arith, none.0), inl none.1))
        | inr less ↦ (let others = comes_to_end calls run.0 b first.0
            (All-tail CanGoOn call calls can_go_on) run.2 in (
              omega (arith, less, others.0),
              elim others.1 [ inl ended ↦ inl ended | inr few ↦ inr (omega (arith, less, few)) ],
            ))
      ]

  pub ends_within : (calls : List C) (n most : ℕ) (a b : S) → left a + 1 ≤ most → Keeps a
      → n ≤ length calls → (has_ended b ≡ true) ⊎ (n ≡ length calls)
      → All CanGoOn calls → IsRun Advances (take n calls) a b
      → (n ≤ most) × (most ≤ length calls → has_ended b ≡ true)
  ends_within calls n most a b near keeps inside ended_or_all can_go_on run =
      let few = comes_to_end (take n calls) a b keeps (All-take CanGoOn n calls can_go_on) run in
      let count : length (take n calls) ≡ n = omega (arith, inside, length-take n calls) in (
        omega (arith, few.0, count, near),
        λ enough. elim ended_or_all [
          | inl ended ↦ ended
          | inr all ↦ elim few.1 [
            | inl ended ↦ ended
            | inr fewer ↦ absurd (omega (arith, fewer, count, enough, all, near))
          ]
        ],
      )
