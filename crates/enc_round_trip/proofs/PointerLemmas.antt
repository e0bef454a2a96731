-- The pointer of a character is one at which the index has it, whatever rows stand there.
use Rattle.std.proofs.Common.{◌≡◌, ℕ, zero, suc, ◌<◌, Bool, true, false, ◌&&◌, cond, Option, Some, None, List, refl}
use Rattle.std.proofs.Common.{ap, IfSome}
use Rattle.std.proofs.Common.{subst, arith}
use Rattle.std.proofs.lemmas.Bool.Decides.{nat_tests}
use Rattle.std.specs.Cmp.{first_so, second_so}
use Rattle.enc_index_pointers.specs.Pointers.{first_below, last_below, pointer_or, is_character, pointer_of}
use Rattle.enc_encoder.specs.Stateless.{bytes_of_pointer}

module _ (test : ℕ → Bool) where
  abbrev Passes : ℕ → ℕ → Type 0
  Passes n p = (p < n) × (test p ≡ true)

  first_or_here : (o : Option ℕ) (b : Bool) (n p : ℕ) → (o ≡ Some p → Passes n p) → test n ≡ b
      → pointer_or o (cond b (Some n) None) ≡ Some p → Passes (suc n) p
  first_or_here (Some q) b n p h t e = let found = h e in (omega (arith, found.0), found.1)
  first_or_here None true n p h t e = let same : n ≡ p = cc in
      (omega arith, subst (λ k. test k ≡ true) same t)
  first_or_here None false n p h t e = cc

  first_passes : (n p : ℕ) → first_below test n ≡ Some p → Passes n p
  unfolding first_below
  first_passes zero p e = cc
  first_passes (suc n) p e =
      first_or_here (first_below test n) (test n) n p (first_passes n p) refl e

  here_or_last : (o : Option ℕ) (b : Bool) (n p : ℕ) → (o ≡ Some p → Passes n p) → test n ≡ b
      → cond b (Some n) o ≡ Some p → Passes (suc n) p
  here_or_last o true n p h t e = let same : n ≡ p = cc in
      (omega arith, subst (λ k. test k ≡ true) same t)
  here_or_last o false n p h t e = let found = h e in (omega (arith, found.0), found.1)

  last_passes : (n p : ℕ) → last_below test n ≡ Some p → Passes n p
  unfolding last_below
  last_passes zero p e = cc
  last_passes (suc n) p e = here_or_last (last_below test n) (test n) n p (last_passes n p) refl e

  by_last_passes : (is_by_last : Bool) (n p : ℕ)
      → cond is_by_last (last_below test n) (first_below test n) ≡ Some p → Passes n p
  by_last_passes true n p e = last_passes n p e
  by_last_passes false n p e = first_passes n p e

pub has_character : (c : ℕ) (o : Option ℕ) → is_character c o ≡ true → o ≡ Some c
has_character c None e = cc
has_character c (Some d) e = ap Some (let same : d ≡ c = grind (arith, nat_tests) in same)

-- a pointer that counts, at which the index has the character
pub record IsPointer (at : ℕ → Option ℕ) (counts : ℕ → Bool) (bound c p : ℕ) : Type 0 where
  pub below : p < bound
  pub counted : counts p ≡ true
  pub has : at p ≡ Some c

pub is_pointer : (at : ℕ → Option ℕ) (counts is_by_last : ℕ → Bool) (bound c p : ℕ)
    → pointer_of at counts is_by_last bound c ≡ Some p → IsPointer at counts bound c p
is_pointer at counts is_by_last bound c p e =
    let is_last = by_last_passes (λ q. counts q && is_character c (at q)) (is_by_last c) bound p
    e in
    record {
      below = is_last.0;
      counted = first_so _ _ is_last.1;
      has = has_character c (at p) (second_so _ _ is_last.1);
    }

-- the bytes of a pointer
pub by_pointer : (P : List ℕ → Type 0) (bytes : ℕ → List ℕ) (o : Option ℕ)
    → ((p : ℕ) → o ≡ Some p → P (bytes p)) → IfSome (bytes_of_pointer bytes o) P
by_pointer P bytes None read = tt
by_pointer P bytes (Some p) read = read p refl
