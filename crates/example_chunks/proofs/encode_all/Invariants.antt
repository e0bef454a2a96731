use Rattle.std.proofs.Common.{◌≡◌, length}
use Rattle.example_chunks.proofs.encode_all.Given as goal

abbrev pub invariant-pieces : goal.invariant-pieces
invariant-pieces g l = length l.text ≡ 256
