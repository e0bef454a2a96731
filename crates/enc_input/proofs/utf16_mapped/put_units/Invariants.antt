use Rattle.std.proofs.Common.{◌-◌, ◌≤◌}
use Rattle.std.specs.Char.Utf16.{utf16_lossy_chars}
use Rattle.enc_input.specs.Mappings.{AreAnyUnits, WritesFront}
use Rattle.enc_input.proofs.utf16_mapped.put_units.Given as goal

abbrev pub invariant-loop-count : goal.invariant-loop-count
invariant-loop-count g l =
    (l.count ≤ 16) × WritesFront utf16_lossy_chars AreAnyUnits (g.M.Mapping.means l.mapping) l.src
    l.fn.dst l.dst l.at l.count l.count

abbrev pub decreases-loop-count : goal.decreases-loop-count
decreases-loop-count g l = 16 - l.count
