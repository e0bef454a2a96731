use Rattle.std.proofs.Common.{◌≤◌, false, length}
use Rattle.std.specs.Char.Utf16.{utf16_lossy_chars}
use Rattle.encoding_rs.specs.Encoder.{steps_left}
use Rattle.bench.proofs.calls.chunks.from_utf16.Given as goal

abbrev pub invariant-calls : goal.invariant-calls
invariant-calls l = 14 ≤ length l.dst

abbrev pub decreases-calls : goal.decreases-calls
decreases-calls l = steps_left l.encoder false (utf16_lossy_chars l.unread)
