use Rattle.std.proofs.Common.{◌≡◌, ◌+◌, ◌-◌, ◌≤◌, false, length}
use Rattle.encoding_rs.specs.Decoding.{has_finished}
use Rattle.example_callers.proofs.first_malformed.Given as goal

abbrev pub invariant-pieces : goal.invariant-pieces
invariant-pieces l = record {
  going : has_finished l.decoder ≡ false;
  room : length l.piece ≡ 64;
  within : l.total ≤ length l.fn.bytes;
  pending : length l.decoder.pending ≤ l.total;
}

abbrev pub decreases-pieces : goal.decreases-pieces
decreases-pieces l = length l.decoder.pending + (length l.fn.bytes - l.total)
