use Rattle.std.proofs.Common.{◌≡◌, ◌-◌, ◌≤◌, ◌++◌, length, take}
use Rattle.enc_sniff.specs.HeaderTokens.{unquoted}
use Rattle.enc_sniff.proofs.quoted.copy_label.Given as goal

abbrev pub invariant-bytes : goal.invariant-bytes
invariant-bytes l = record {
  same : take l.len l.room ++ unquoted l.rest ≡ unquoted l.text;
  within : l.len ≤ length l.room;
}

abbrev pub decreases-bytes : goal.decreases-bytes
decreases-bytes l = length l.room - l.len
