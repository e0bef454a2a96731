use Rattle.std.proofs.Common.{length, ◌-◌, ◌≡◌, ◌≤◌, ◌*◌, take}
use Rattle.std.specs.Str.{IsAscii}
use Rattle.enc_reader.specs.Policies.{escaped}
use Rattle.enc_reader.proofs.malformed_policy.escape.Given as goal

abbrev pub invariant-loop-at : goal.invariant-loop-at
invariant-loop-at l = record {
  within : l.at ≤ length l.bytes;
  text : take (4 * l.at) l.room ≡ escaped (take l.at l.bytes);
  len : length l.room ≡ 16;
  ascii : IsAscii (take (4 * l.at) l.room);
}

abbrev pub decreases-loop-at : goal.decreases-loop-at
decreases-loop-at l = length l.bytes - l.at
