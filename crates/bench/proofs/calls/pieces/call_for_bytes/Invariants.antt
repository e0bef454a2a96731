use Rattle.std.proofs.Common.{◌≡◌, ◌≤◌, ◌<◌, false, length}
use Rattle.encoding_rs.specs.Decoding.{has_finished}
use Rattle.bench.proofs.calls.pieces.call_for_bytes.Given as goal

abbrev pub invariant-pieces : goal.invariant-pieces
invariant-pieces l = (has_finished l.decoder ≡ false) × (0 < l.len)
    × (4 ≤ length l.bytes) × (2 ≤ length l.units)

abbrev pub decreases-pieces : goal.decreases-pieces
decreases-pieces l = length l.unread
