use Rattle.std.proofs.Common.{◌≡◌, ◌-◌, ◌≤◌, length}
use Rattle.bench.proofs.calls.fill.Given as goal

abbrev pub invariant-reads : goal.invariant-reads
invariant-reads g l = (l.at ≤ length l.chunk) × (length l.chunk ≡ length l.initial.chunk)

abbrev pub decreases-reads : goal.decreases-reads
decreases-reads g l = length l.initial.chunk - l.at
