-- The machine values of handles and of what lies at their pointers.
use Rattle.std.proofs.Common.{◌≡◌, ℕ, List, [], ◌∷◌, refl}
use lib.Dec.{T as Holds}
use denote.Laws.{Typed}
use mir.Syntax.{Ty}
use mir.Val.{Val, has_ty, WT, vptr, vstruct, vcons, vnil}

-- a handle's machine value
abbrev pub word : ℕ → ℕ → List Val
word b o = vstruct (vcons (vptr b o) vnil) ∷ []

-- the one machine value of a type of one
pub one : (τ : Ty) (vs : List Val) → Typed (τ ∷ []) vs
    → (v : Val) × (vs ≡ v ∷ []) × (Holds (has_ty τ v) × WT v)
one τ [] t = absurd t
one τ (v ∷ []) t = (v, refl, t.0)
one τ (v ∷ w ∷ vs) t = absurd t.1
