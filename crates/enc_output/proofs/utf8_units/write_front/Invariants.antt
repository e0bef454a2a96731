use Rattle.std.proofs.Common.{◌-◌}
use Rattle.enc_output.proofs.UnitsWrittenLemmas.{UnitsWritten}
use Rattle.enc_output.proofs.utf8_units.write_front.Given as goal

abbrev pub invariant-loop-read : goal.invariant-loop-read
invariant-loop-read l = UnitsWritten l.src l.fn.dst l.dst l.len l.read l.written

abbrev pub decreases-loop-read : goal.decreases-loop-read
decreases-loop-read l = l.len - l.read
