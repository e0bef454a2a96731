use Rattle.std.proofs.Common.{◌≡◌, ◌+◌, ◌<◌, ◌≤◌, length}
use Rattle.enc_sniff.specs.HeaderTokens.{closing_offset}
use Rattle.enc_sniff.proofs.tokens.closing_mark.Given as goal

abbrev pub invariant-pairs : goal.invariant-pairs
invariant-pairs l = record {
  same : closing_offset l.offset l.rest ≡ closing_offset 0 l.bytes;
  within : l.offset ≤ length l.bytes + 1;
  left : 0 < length l.rest → l.offset + length l.rest ≡ length l.bytes;
}

abbrev pub decreases-pairs : goal.decreases-pairs
decreases-pairs l = length l.rest
