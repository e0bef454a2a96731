use Rattle.std.proofs.Common.{◌-◌}
use Rattle.enc_utf8.specs.AsciiCopy.{CopiesAscii}
use Rattle.enc_utf8.proofs.ascii.copy_ascii.Given as goal

abbrev pub invariant-loop-at : goal.invariant-loop-at
invariant-loop-at l = CopiesAscii l.src l.fn.dst l.dst l.most l.at

abbrev pub decreases-loop-at : goal.decreases-loop-at
decreases-loop-at l = l.most - l.at

abbrev pub invariant-loop-at-2 : goal.invariant-loop-at-2
invariant-loop-at-2 l = CopiesAscii l.src l.fn.dst l.dst l.most l.at

abbrev pub decreases-loop-at-2 : goal.decreases-loop-at-2
decreases-loop-at-2 l = l.most - l.at
