use Rattle.std.proofs.Common.{◌≤◌, ◌*◌, ◌-◌, length}
use Rattle.bench.proofs.calls.units.units_of.Given as goal

abbrev pub invariant-loop-at : goal.invariant-loop-at
invariant-loop-at l = record {
  within : l.at ≤ l.count;
  read : 2 * l.count ≤ length l.bytes;
  written : l.count ≤ length l.units;
}

abbrev pub decreases-loop-at : goal.decreases-loop-at
decreases-loop-at l = l.count - l.at

abbrev pub invariant-loop-at-2 : goal.invariant-loop-at-2
invariant-loop-at-2 l = record {
  within : l.at ≤ l.count;
  read : 2 * l.count ≤ length l.bytes;
  written : l.count ≤ length l.units;
}

abbrev pub decreases-loop-at-2 : goal.decreases-loop-at-2
decreases-loop-at-2 l = l.count - l.at
