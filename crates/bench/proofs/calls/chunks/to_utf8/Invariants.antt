use Rattle.std.proofs.Common.{◌≡◌, ◌≤◌, ◌+◌, false, length}
use Rattle.encoding_rs.specs.Decoding.{has_finished}
use Rattle.bench.proofs.calls.chunks.to_utf8.Given as goal

abbrev pub invariant-calls : goal.invariant-calls
invariant-calls l = (has_finished l.decoder ≡ false) × (4 ≤ length l.dst)

abbrev pub decreases-calls : goal.decreases-calls
decreases-calls l = length l.decoder.pending + length l.unread
