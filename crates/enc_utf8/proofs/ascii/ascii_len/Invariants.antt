use Rattle.std.proofs.Common.{◌-◌, ◌≤◌, length, take}
use Rattle.enc_utf8.specs.Validity.{AreAscii}
use Rattle.enc_utf8.proofs.ascii.ascii_len.Given as goal

abbrev pub invariant-loop-at : goal.invariant-loop-at
invariant-loop-at l = (l.at ≤ length l.bytes) × AreAscii (take l.at l.bytes)

abbrev pub decreases-loop-at : goal.decreases-loop-at
decreases-loop-at l = length l.bytes - l.at
