-- Runs in general: lists of calls, each of which does a part of what is to come.
use Rattle.std.specs.Prelude.{◌≡◌, ℕ, ◌+◌, Bool, true, not, ◌&&◌, List, [], ◌∷◌, ◌++◌, if◌then◌else◌}

-- These calls, in turn, lead from one state to the other.
abbrev pub IsRun : {C S : Type 0} → (C → S → S → Type 0) → List C → S → S → Type 0
IsRun Advances [] old new = old ≡ new
IsRun {S = S} Advances (call ∷ calls) old new = (mid : S) × Advances call old mid
    × IsRun Advances calls mid new

-- whether all calls report, and none replaces
abbrev pub all_report : {C : Type 0} → (C → Bool) → List C → Bool
all_report replaces [] = true
all_report replaces (call ∷ calls) = not (replaces call) && all_report replaces calls

-- what one call has done, and whether it replaces
pub record RunPart (X : Type 0) : Type 0 where
  pub replaces : Bool
  pub done : List X

-- what all parts have done
abbrev pub done_of_parts : {X : Type 0} → List (RunPart X) → List X
done_of_parts [] = []
done_of_parts (p ∷ ps) = p.done ++ done_of_parts ps

-- What the parts without replacement report: `report` says it of what is done from an offset on,
-- and `size` how far that goes.
abbrev pub reported_from : {X R : Type 0} → (ℕ → List X → List R) → (List X → ℕ) → ℕ
    → List (RunPart X) → List R
reported_from report size at [] = []
reported_from report size at (p ∷ ps) = (if p.replaces then [] else report at p.done)
    ++ reported_from report size (at + size p.done) ps
