use Rattle.std.proofs.Common.{◌≡◌, ◌≤◌, length}
use Rattle.enc_sniff.specs.Positions.{past_word}
use Rattle.enc_sniff.proofs.scanning.past_first.Given as goal

abbrev pub invariant-places : goal.invariant-places
invariant-places l = record {
  same : past_word l.word l.rest ≡ past_word l.word l.bytes;
  within : length l.rest ≤ length l.bytes;
}

abbrev pub decreases-places : goal.decreases-places
decreases-places l = length l.rest
