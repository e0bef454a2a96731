use Rattle.std.proofs.Common.{ℕ, ◌<◌, ◌≤◌, ◌∷◌, length}
use Rattle.enc_utf8.specs.Utf8Run.{CanFollowBytesAt}
use Rattle.enc_utf8.proofs.utf8.start_len.Given as goal

abbrev pub invariant-loop-end : goal.invariant-loop-end
invariant-loop-end l =
    (l.end ≤ length l.src) × ((k : ℕ) → k < l.end → CanFollowBytesAt (0 ∷ 0 ∷ 0 ∷ l.src) k)

abbrev pub decreases-loop-end : goal.decreases-loop-end
decreases-loop-end l = l.end
