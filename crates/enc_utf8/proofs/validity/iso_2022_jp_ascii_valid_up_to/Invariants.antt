use Rattle.std.proofs.Common.{◌-◌, ◌≤◌, length, take}
use Rattle.enc_utf8.specs.Validity.{AreIso2022JpAscii}
use Rattle.enc_utf8.proofs.validity.iso_2022_jp_ascii_valid_up_to.Given as goal

abbrev pub invariant-loop-at : goal.invariant-loop-at
invariant-loop-at l = (l.at ≤ length l.bytes) × AreIso2022JpAscii (take l.at l.bytes)

abbrev pub decreases-loop-at : goal.decreases-loop-at
decreases-loop-at l = length l.bytes - l.at
