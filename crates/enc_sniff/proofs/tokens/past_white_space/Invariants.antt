use Rattle.std.proofs.Common.{◌≡◌, ◌+◌, ◌≤◌, length}
use Rattle.enc_sniff.specs.HeaderTokens.{past_comments}
use Rattle.enc_sniff.proofs.tokens.past_white_space.Given as goal

abbrev pub invariant-bytes : goal.invariant-bytes
invariant-bytes l = record {
  same : past_comments l.depth l.rest ≡ past_comments 0 l.bytes;
  within : l.depth + length l.rest ≤ length l.bytes;
}

abbrev pub decreases-bytes : goal.decreases-bytes
decreases-bytes l = length l.rest
