use Rattle.std.proofs.Common.{ℕ, ◌+◌, ◌-◌, ◌<◌, ◌≤◌, length}
use Rattle.enc_utf8.specs.Utf8Run.{CanFollowBytesAt}
use Rattle.enc_utf8.proofs.utf8.following.Given as goal

abbrev pub invariant-loop-at : goal.invariant-loop-at
invariant-loop-at l = (l.at + 3 ≤ length l.src) × ((k : ℕ) → k < l.at → CanFollowBytesAt l.src k)

abbrev pub decreases-loop-at : goal.decreases-loop-at
decreases-loop-at l = length l.src - l.at

abbrev pub invariant-loop-at-2 : goal.invariant-loop-at-2
invariant-loop-at-2 l = (l.at + 3 ≤ length l.src) × ((k : ℕ) → k < l.at → CanFollowBytesAt l.src k)

abbrev pub decreases-loop-at-2 : goal.decreases-loop-at-2
decreases-loop-at-2 l = length l.src - l.at
