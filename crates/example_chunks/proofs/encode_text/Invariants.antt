use Rattle.std.proofs.Common.{◌≡◌, length, chars}
use denote.Text.{Utf8}
use denote.Shadow.{shadow}
use Rattle.encoding_rs.specs.Encoder.{steps_left}
use Rattle.example_chunks.proofs.encode_text.Given as goal

abbrev pub invariant-pieces : goal.invariant-pieces
invariant-pieces g l = shadow (Utf8 l.unread) × (length l.bytes ≡ 256)

abbrev pub decreases-pieces : goal.decreases-pieces
decreases-pieces g l = steps_left l.encoder l.last (chars l.unread)
