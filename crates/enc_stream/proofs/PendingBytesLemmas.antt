-- The bytes pending of a decoder: those that it holds of a byte order mark, or else those of its
-- codec.
use Rattle.std.specs.Prelude.{if◌then◌else◌}
use Rattle.std.proofs.Common.{◌≡◌, ℕ, ◌<◌, ◌≤◌, zero, suc, true, false, eqb, List, [], ◌∷◌, length, refl, ap, arith}
use Rattle.std.proofs.Common.{inl, inr, ◌⊎◌}
use Rattle.std.proofs.lemmas.Bool.{cond-false, false≢true}
use Rattle.std.proofs.lemmas.Bool.Decides.{nat_tests}
use Rattle.enc_stream.specs.declared.life_cycle.LifeCycle.{LifeCycle}
use Rattle.enc_decoder.specs.Remainder.{AreBytes}
use Rattle.enc_stream.specs.LifeCycle.{held_mark_bytes, holds_bytes, held_or_pending_bytes, unread_bytes}
use Rattle.enc_stream.proofs.LifeCycleLemmas.{held_are_bytes, held_are_few}

pub pending_of_held : (held pending : List ℕ) → pending ≡ []
    → held_or_pending_bytes held pending ≡ held
pending_of_held [] pending none = none
pending_of_held (b ∷ held) pending none = refl

pub pending_if_held : (held pending : List ℕ) → holds_bytes held ≡ true
    → held_or_pending_bytes held pending ≡ held
pending_if_held [] pending holds = absurd (false≢true holds)
pending_if_held (b ∷ held) pending holds = refl

-- The held bytes that the codec has not read.

pub bytes_unread : (life : LifeCycle) (n : ℕ) → AreBytes (unread_bytes life n)
bytes_unread life n =
    elim (eqb n 0) as (λ none. AreBytes (if none then held_mark_bytes life else []))
    [ true ↦ held_are_bytes life | false ↦ tt ]

pub few_unread : (life : LifeCycle) (n : ℕ) → length (unread_bytes life n) ≤ 2
few_unread life n =
    elim (eqb n 0) as (λ none. length (if none then held_mark_bytes life else []) ≤ 2)
    [ true ↦ held_are_few life | false ↦ omega arith ]

pub none_unread : (life : LifeCycle) (n : ℕ) → 0 < n → unread_bytes life n ≡ []
none_unread life n some = let not_zero : eqb n 0 ≡ false = grind (arith, nat_tests) in
    cond-false _ _ _ not_zero

pub none_held_unread : (life : LifeCycle) (n : ℕ) → held_mark_bytes life ≡ []
    → unread_bytes life n ≡ []
none_held_unread life n none_held =
    elim (eqb n 0) as (λ none. (if none then held_mark_bytes life else []) ≡ [])
    [ true ↦ none_held | false ↦ refl ]

pub held_or_pending : (life : LifeCycle) (n : ℕ) → (length (unread_bytes life n) ≡ 0) ⊎ (n ≡ 0)
held_or_pending life zero = inr refl
held_or_pending life (suc n) = inl (ap length (none_unread life (suc n) (omega arith)))
