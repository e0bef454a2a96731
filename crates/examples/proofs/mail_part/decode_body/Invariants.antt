use Rattle.std.proofs.Common.{◌≡◌, length}
use Rattle.examples.proofs.mail_part.decode_body.Given as goal

abbrev pub invariant-pieces : goal.invariant-pieces
invariant-pieces g l = length l.room ≡ 1460
