use Rattle.std.proofs.Common.{◌-◌}
use Rattle.enc_utf8.specs.AsciiCopy.{CopiesAscii}
use Rattle.enc_input.proofs.utf16_mapped.copy_steps.Given as goal

abbrev pub invariant-loop-more : goal.invariant-loop-more
invariant-loop-more l = CopiesAscii l.src l.fn.dst l.dst l.most l.at

abbrev pub decreases-loop-more : goal.decreases-loop-more
decreases-loop-more l = l.most - l.at
