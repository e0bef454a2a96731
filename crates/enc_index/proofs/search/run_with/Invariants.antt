use Rattle.std.proofs.Common.{◌-◌}
use Rattle.enc_index.proofs.RunSearchLemmas.{Halving}
use Rattle.enc_index.proofs.search.run_with.Given as goal

abbrev pub invariant-loop-low : goal.invariant-loop-low
invariant-loop-low l = Halving l.runs l.number l.low l.high

abbrev pub decreases-loop-low : goal.decreases-loop-low
decreases-loop-low l = l.high - l.low
