use Rattle.std.proofs.Common.{◌-◌, ◌≤◌, length, take}
use Rattle.enc_utf8.specs.Validity.{AreAscii}
use Rattle.enc_utf8.proofs.ascii.ascii_steps.Given as goal

abbrev pub invariant-strides : goal.invariant-strides
invariant-strides l = (l.at ≤ length l.bytes) × AreAscii (take l.at l.bytes)

abbrev pub decreases-strides : goal.decreases-strides
decreases-strides l = length l.bytes - l.at

abbrev pub invariant-steps : goal.invariant-steps
invariant-steps l = (l.at ≤ length l.bytes) × AreAscii (take l.at l.bytes)

abbrev pub decreases-steps : goal.decreases-steps
decreases-steps l = length l.bytes - l.at
