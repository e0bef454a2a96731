use Rattle.std.proofs.Common.{◌≡◌, ◌+◌, ◌-◌, ◌≤◌, ◌++◌, length, take, drop}
use Rattle.enc_reader.proofs.recent.bytes_before_end.Given as goal

abbrev pub invariant-loop-at : goal.invariant-loop-at
invariant-loop-at l = record {
  within : l.at ≤ l.len;
  room : length l.found ≡ 4;
  found : take l.at l.found
      ≡ take l.at (drop (8 + length l.bytes - l.after - l.len) (l.recent ++ l.bytes));
}

abbrev pub decreases-loop-at : goal.decreases-loop-at
decreases-loop-at l = l.len - l.at
