-- The first and the last number below a bound that pass a test.
use Rattle.std.proofs.Common.{◌≡◌, ◌∙◌, ℕ, zero, suc, ◌<◌, ◌≤◌, Bool, true, refl, sym, cond, nat_lt}
use Rattle.std.proofs.Common.{None, Some, arith, inl, inr, lt-ltb, le-ltb}
use Rattle.std.proofs.lemmas.Bool.{cond-true, cond-false, cases_order, false_from_ne_true}
use Rattle.enc_index_pointers.specs.Pointers.{first_below, last_below}

-- p passes if it is below the bound, and no other number does earlier, or later
module _ (test : ℕ → Bool) (p : ℕ) where
  pub first_below-is : (n : ℕ) → (p < n → test p ≡ true)
      → ((q : ℕ) → q < n → test q ≡ true → p ≤ q)
      → first_below test n ≡ cond (nat_lt p n) (Some p) None
  unfolding first_below
  first_below-is zero passes is_first = sym (cond-false _ _ _ (le-ltb p 0 (omega arith)))
  first_below-is (suc n) passes is_first =
      let earlier = first_below-is n (λ l. passes (omega arith))
      (λ q l. is_first q (omega arith)) in
      elim (cases_order p n) [
        | inl here ↦
            rw (earlier, le-ltb p n (omega arith), lt-ltb p (suc n) (omega arith), ← here)
            (rw (passes (omega arith)) refl)
        | inr (inl before) ↦ rw (earlier, lt-ltb p n before, lt-ltb p (suc n) (omega arith)) refl
        | inr (inr after) ↦
            let fails = false_from_ne_true (test n)
            (λ t. omega (arith, is_first n (omega arith) t)) in
            rw (earlier, le-ltb p n (omega arith), le-ltb p (suc n) (omega arith), fails) refl
      ]

  pub last_below-is : (n : ℕ) → (p < n → test p ≡ true)
      → ((q : ℕ) → q < n → test q ≡ true → (q ≤ p) × (p < n))
      → last_below test n ≡ cond (nat_lt p n) (Some p) None
  unfolding last_below
  last_below-is zero passes is_last = sym (cond-false _ _ _ (le-ltb p 0 (omega arith)))
  last_below-is (suc n) passes is_last =
      elim (cases_order p n) [
        | inl here ↦
            rw (lt-ltb p (suc n) (omega arith), ← here) (rw (passes (omega arith)) refl)
        | inr (inl before) ↦
            let fails = false_from_ne_true (test n)
            (λ t. omega (arith, (is_last n (omega arith) t).0)) in
            rw (fails, lt-ltb p (suc n) (omega arith)) (last_below-is n (λ l. passes (omega arith))
            (λ q l t. ((is_last q (omega arith) t).0, before))
            ∙ cond-true _ _ _ (lt-ltb p n before))
        | inr (inr after) ↦
            let fails = false_from_ne_true (test n)
            (λ t. omega (arith, (is_last n (omega arith) t).1)) in
            rw (fails, le-ltb p (suc n) (omega arith)) (last_below-is n (λ l. passes (omega arith))
            (λ q l t. absurd (omega (arith, (is_last q (omega arith) t).1)))
            ∙ cond-false _ _ _ (le-ltb p n (omega arith)))
      ]
