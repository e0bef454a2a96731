use Rattle.std.proofs.Common.{◌-◌, length}
use Rattle.std.specs.Char.Utf16.{utf16_lossy_chars}
use Rattle.enc_input.specs.Mappings.{AreAnyUnits}
use Rattle.enc_input.proofs.WriteLoopLemmas.{Written}
use Rattle.enc_input.proofs.utf16_mapped.write_utf16.Given as goal

abbrev pub invariant-sixteens : goal.invariant-sixteens
invariant-sixteens g l =
    Written utf16_lossy_chars AreAnyUnits (g.M.Mapping.means l.mapping) l.src l.fn.dst l.dst l.from
    l.read l.at

abbrev pub decreases-sixteens : goal.decreases-sixteens
decreases-sixteens g l = length l.src - l.read

abbrev pub invariant-ones : goal.invariant-ones
invariant-ones g l =
    Written utf16_lossy_chars AreAnyUnits (g.M.Mapping.means l.mapping) l.src l.fn.dst l.dst l.from
    l.read l.at

abbrev pub decreases-ones : goal.decreases-ones
decreases-ones g l = length l.src - l.read
