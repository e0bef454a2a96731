use Rattle.std.proofs.Common.{◌-◌, length}
use Rattle.enc_output.proofs.OverwrittenTextLemmas.{Cleared}
use Rattle.enc_output.proofs.rest.clear_rest.Given as goal

abbrev pub invariant-loop-end : goal.invariant-loop-end
invariant-loop-end l = Cleared l.at l.end l.fn.dst l.dst

abbrev pub decreases-loop-end : goal.decreases-loop-end
decreases-loop-end l = length l.dst - l.end
