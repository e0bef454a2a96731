use Rattle.std.proofs.Common.{◌≡◌, ◌-◌, ◌≤◌, length, take}
use Rattle.enc_output.specs.Utf8Units.{units_from}
use Rattle.enc_output.proofs.utf8_units.gather_units.Given as goal

abbrev pub invariant-loop-at : goal.invariant-loop-at
invariant-loop-at l =
    (l.from ≤ l.at) × (l.at ≤ l.to) × (l.end ≤ l.at - l.from) × (l.end ≤ 96)
    × (length l.buffer ≡ length l.initial.buffer)
    × (take l.end l.buffer ≡ units_from l.src l.from (l.at - l.from))

abbrev pub decreases-loop-at : goal.decreases-loop-at
decreases-loop-at l = l.to - l.at
