use Rattle.std.proofs.Common.{◌≡◌, ◌-◌, ◌≤◌, ◌++◌, length, take, drop}
use Rattle.enc_sniff.specs.HeaderFields.{field_bytes}
use Rattle.enc_sniff.proofs.header.field.Given as goal

abbrev pub invariant-bytes : goal.invariant-bytes
invariant-bytes l = record {
  same : field_bytes l.bytes ≡ take l.len l.bytes ++ field_bytes (drop l.len l.bytes);
  within : l.len ≤ length l.bytes;
}

abbrev pub decreases-bytes : goal.decreases-bytes
decreases-bytes l = length l.bytes - l.len
