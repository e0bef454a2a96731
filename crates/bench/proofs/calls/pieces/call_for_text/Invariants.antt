use Rattle.std.proofs.Common.{◌≤◌, ◌<◌, length}
use denote.Text.{Utf8}
use denote.Shadow.{shadow}
use Rattle.bench.proofs.calls.pieces.call_for_text.Given as goal

abbrev pub invariant-pieces : goal.invariant-pieces
invariant-pieces l = shadow (Utf8 l.unread) × (0 < l.len) × (14 ≤ length l.bytes)

abbrev pub decreases-pieces : goal.decreases-pieces
decreases-pieces l = length l.unread
