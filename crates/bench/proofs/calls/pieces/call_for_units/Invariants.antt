use Rattle.std.proofs.Common.{◌≤◌, ◌<◌, length}
use Rattle.bench.proofs.calls.pieces.call_for_units.Given as goal

abbrev pub invariant-pieces : goal.invariant-pieces
invariant-pieces l = (0 < l.len) × (14 ≤ length l.bytes)

abbrev pub decreases-pieces : goal.decreases-pieces
decreases-pieces l = length l.unread
