use Rattle.std.proofs.Common.{◌≤◌, false, length}
use Rattle.std.specs.Prelude.{chars}
use denote.Text.{Utf8}
use denote.Shadow.{shadow}
use Rattle.encoding_rs.specs.Encoder.{steps_left}
use Rattle.bench.proofs.calls.chunks.from_utf8.Given as goal

abbrev pub invariant-calls : goal.invariant-calls
invariant-calls l = shadow (Utf8 l.unread) × (14 ≤ length l.dst)

abbrev pub decreases-calls : goal.decreases-calls
decreases-calls l = steps_left l.encoder false (chars l.unread)
