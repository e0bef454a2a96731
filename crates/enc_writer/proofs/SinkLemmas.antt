-- What sinks take, over several steps.
use Rattle.std.proofs.Common.{◌≡◌, ℕ, ◌+◌, ◌-◌, ◌≤◌, List, [], ◌++◌, length, take, drop, Option, Some, None, refl, ap}
use Rattle.std.proofs.Common.{◌∙◌, sym, append_assoc, append-nil, arith}
use Rattle.std.proofs.Math.Seq.{take-add}
use Rattle.std.proofs.lemmas.List.{take-take, take-append-drop}
use Rattle.std.specs.declared.result.Result.{Result}
use Rattle.std.specs.Prelude.{Ok, Err, OnOk, OnErr}
use Rattle.std.specs.Io.KnownBytes.{Appends, Keeps}
use Rattle.enc_writer.specs.Sink.{AppendsContents, AppendsPrefix}

pub AppendsContents-none : (known : Option (List ℕ)) → AppendsContents known known []
AppendsContents-none None = tt
AppendsContents-none (Some xs) = sym (append-nil xs)

pub AppendsContents-then : (k₀ k₁ k₂ : Option (List ℕ)) (a b : List ℕ) → AppendsContents k₀ k₁ a
    → AppendsContents k₁ k₂ b → AppendsContents k₀ k₂ (a ++ b)
AppendsContents-then None k₁ k₂ a b h₁ h₂ = tt
AppendsContents-then (Some xs) None k₂ a b h₁ h₂ = absurd h₁
AppendsContents-then (Some xs) (Some ys) None a b h₁ h₂ = absurd h₂
AppendsContents-then (Some xs) (Some ys) (Some zs) a b h₁ h₂ =
    h₂ ∙ ap (λ t. t ++ b) h₁ ∙ append_assoc xs a b

-- these bytes are taken, and those known stay
pub AppendsContents-keeps : (k₀ k₁ k₂ : Option (List ℕ)) (bytes : List ℕ)
    → AppendsContents k₀ k₁ bytes → Keeps k₁ k₂ → AppendsContents k₀ k₂ bytes
AppendsContents-keeps None k₁ k₂ bytes h₁ h₂ = tt
AppendsContents-keeps (Some xs) None k₂ bytes h₁ h₂ = absurd h₁
AppendsContents-keeps (Some xs) (Some ys) None bytes h₁ h₂ = absurd h₂
AppendsContents-keeps (Some xs) (Some ys) (Some zs) bytes h₁ h₂ = h₂ ∙ h₁

-- `at` bytes are taken, and n more
pub AppendsContents-push : (k₀ k₁ k₂ : Option (List ℕ)) (bytes : List ℕ) (at n : ℕ)
    → at + n ≤ length bytes
    → AppendsContents k₀ k₁ (take at bytes)
    → AppendsContents k₁ k₂ (take n (take (length bytes - at) (drop at bytes)))
    → AppendsContents k₀ k₂ (take (at + n) bytes)
AppendsContents-push k₀ k₁ k₂ bytes at n h t₁ t₂ =
    rw (take-add at n bytes)
    (AppendsContents-then k₀ k₁ k₂ (take at bytes) (take n (drop at bytes)) t₁
    (rw (take-take n (length bytes - at) (drop at bytes) (omega arith)) at t₂))

-- `at` bytes are taken, and then no more
pub AppendsPrefix-push : (k₀ k₁ k₂ : Option (List ℕ)) (bytes : List ℕ) (at : ℕ)
    → AppendsContents k₀ k₁ (take at bytes) → Keeps k₁ k₂ → AppendsPrefix k₀ k₂ bytes
AppendsPrefix-push k₀ k₁ k₂ bytes at t keeps = record {
  wrote = take at bytes;
  unwritten = drop at bytes;
  prefix = sym (take-append-drop at bytes);
  taken = AppendsContents-keeps k₀ k₁ k₂ (take at bytes) t keeps;
}

-- a prefix of the first of two buffers is taken
pub AppendsPrefix-front : {k₀ k₁ : Option (List ℕ)} {front : List ℕ} (back : List ℕ)
    → AppendsPrefix k₀ k₁ front → AppendsPrefix k₀ k₁ (front ++ back)
AppendsPrefix-front back taken = record {
  wrote = taken.wrote;
  unwritten = taken.unwritten ++ back;
  prefix = ap (λ x. x ++ back) taken.prefix ∙ append_assoc taken.wrote taken.unwritten back;
  taken = taken.taken;
}

-- the first is taken, and a prefix of the second
pub AppendsPrefix-back : (k₀ : Option (List ℕ)) {k₁ k₂ : Option (List ℕ)} (front : List ℕ)
    {back : List ℕ} → AppendsContents k₀ k₁ front → AppendsPrefix k₁ k₂ back
    → AppendsPrefix k₀ k₂ (front ++ back)
AppendsPrefix-back k₀ {k₁} {k₂} front first taken = record {
  wrote = front ++ taken.wrote;
  unwritten = taken.unwritten;
  prefix = ap (λ x. front ++ x) taken.prefix
      ∙ sym (append_assoc front taken.wrote taken.unwritten);
  taken = AppendsContents-then k₀ k₁ k₂ front taken.wrote first taken.taken;
}

-- Known bytes of a writer, which it keeps at some writes and then appends to.

pub Keeps-none : (known : Option (List ℕ)) → Keeps known known
Keeps-none None = tt
Keeps-none (Some xs) = refl

pub Keeps-then : (k₀ k₁ k₂ : Option (List ℕ)) → Keeps k₀ k₁ → Keeps k₁ k₂ → Keeps k₀ k₂
Keeps-then None k₁ k₂ h₁ h₂ = tt
Keeps-then (Some xs) None k₂ h₁ h₂ = absurd h₁
Keeps-then (Some xs) (Some ys) None h₁ h₂ = absurd h₂
Keeps-then (Some xs) (Some ys) (Some zs) h₁ h₂ = h₂ ∙ h₁

pub Keeps-append : (k₀ k₁ k₂ : Option (List ℕ)) (bytes : List ℕ) → Keeps k₀ k₁
    → Appends k₁ k₂ bytes → Appends k₀ k₂ bytes
Keeps-append None k₁ k₂ bytes h₁ h₂ = tt
Keeps-append (Some xs) None k₂ bytes h₁ h₂ = absurd h₁
Keeps-append (Some xs) (Some ys) None bytes h₁ h₂ = absurd h₂
Keeps-append (Some xs) (Some ys) (Some zs) bytes h₁ h₂ = h₂ ∙ ap (λ t. t ++ bytes) h₁

-- no byte is appended
pub Keeps-nothing : (k₀ k₁ : Option (List ℕ)) → Appends k₀ k₁ [] → Keeps k₀ k₁
Keeps-nothing None k₁ h = tt
Keeps-nothing (Some xs) None h = h
Keeps-nothing (Some xs) (Some ys) h = h ∙ append-nil xs

pub on_err : {T E : Type 0} (r : Result T E) (P : Type 0) → P → OnErr r P
on_err (Ok x) P h = tt
on_err (Err e) P h = h

pub on_ok : {T E : Type 0} (r : Result T E) (P : Type 0) → P → OnOk r P
on_ok (Ok x) P h = h
on_ok (Err e) P h = tt

pub on_ok_both : {T E : Type 0} (r : Result T E) {P Q R : Type 0} → (P → Q → R) → OnOk r P
    → OnOk r Q → OnOk r R
on_ok_both (Ok x) both p q = both p q
on_ok_both (Err e) both p q = tt
