use Rattle.std.proofs.Common.{ℕ, ◌+◌, ◌<◌, ◌≤◌, length}
use Rattle.enc_utf8.specs.Utf8Run.{CanFollowBytesAt}
use Rattle.enc_utf8.proofs.utf8.blocks_len.Given as goal

abbrev pub invariant-loop-end : goal.invariant-loop-end
invariant-loop-end l = (l.end + 3 ≤ length l.src) × ((k : ℕ) → k < l.end → CanFollowBytesAt l.src k)

abbrev pub decreases-loop-end : goal.decreases-loop-end
decreases-loop-end l = l.end
