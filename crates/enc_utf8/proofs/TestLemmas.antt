-- A test of each number below a bound.
use Rattle.std.proofs.Common.{◌≡◌, ℕ, zero, suc, ◌<◌, Bool, true, ◌&&◌, subst, arith, inl, inr}
use Rattle.std.proofs.lemmas.Bool.{and_parts, cases_lt}

unfoldable pub every : ℕ → (ℕ → Bool) → Bool
every zero p = true
every (suc n) p = p n && every n p

pub every_passes : (n : ℕ) (p : ℕ → Bool) → every n p ≡ true → (k : ℕ) → k < n → p k ≡ true
unfolding every
every_passes zero p all k below = absurd (omega arith)
every_passes (suc n) p all k below = elim (cases_lt k n) [
  | inl before ↦ every_passes n p (and_parts _ _ all).1 k before
  | inr after ↦ let last : n ≡ k = omega arith in
      subst (λ i. p i ≡ true) last (and_parts (p n) _ all).0
]
