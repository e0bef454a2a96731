use Rattle.std.proofs.Common.{◌-◌, ◌≤◌, length, take}
use Rattle.enc_utf8.specs.Validity.{IsWellFormedUtf8}
use Rattle.enc_utf8.proofs.utf8.utf8_front.Given as goal

abbrev pub invariant-loop-at : goal.invariant-loop-at
invariant-loop-at l = (l.at ≤ length l.src) × IsWellFormedUtf8 (take l.at l.src)

abbrev pub decreases-loop-at : goal.decreases-loop-at
decreases-loop-at l = length l.src - l.at
