use Rattle.std.proofs.Common.{◌-◌, length, chars, IsUtf8}
use Rattle.enc_input.proofs.WriteLoopLemmas.{Written}
use Rattle.enc_input.proofs.utf8_mapped.write_utf8.Given as goal

abbrev pub invariant-sixteens : goal.invariant-sixteens
invariant-sixteens g l =
    Written chars IsUtf8 (g.M.Mapping.means l.mapping) l.src l.fn.dst l.dst l.from l.read l.at

abbrev pub decreases-sixteens : goal.decreases-sixteens
decreases-sixteens g l = length l.src - l.read
