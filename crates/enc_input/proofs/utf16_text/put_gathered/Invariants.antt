use Rattle.std.proofs.Common.{◌-◌, length}
use Rattle.std.specs.Char.Utf16.{utf16_lossy_chars}
use Rattle.enc_input.specs.Mappings.{AreAnyUnits}
use Rattle.enc_input.proofs.WriteLoopLemmas.{Written}
use Rattle.enc_input.proofs.utf16_text.put_gathered.Given as goal

abbrev pub invariant-parts : goal.invariant-parts
invariant-parts g l =
    Written utf16_lossy_chars AreAnyUnits (g.M.Mapping.means l.fn.mapping) l.src l.fn.dst l.dst
    l.at l.read l.end

abbrev pub decreases-parts : goal.decreases-parts
decreases-parts g l = length l.src - l.read
