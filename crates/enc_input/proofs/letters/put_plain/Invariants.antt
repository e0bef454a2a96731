use Rattle.std.proofs.Common.{◌-◌, ◌≤◌}
use Rattle.std.specs.Char.Utf16.{utf16_lossy_chars}
use Rattle.enc_input.specs.Mappings.{AreAnyUnits, WritesFront}
use Rattle.enc_input.proofs.letters.put_plain.Given as goal

abbrev pub invariant-loop-len : goal.invariant-loop-len
invariant-loop-len g l =
    (l.len ≤ l.most) × WritesFront utf16_lossy_chars AreAnyUnits (g.M.Mapping.means l.fn.mapping)
    l.src l.fn.dst l.dst l.at l.len l.len

abbrev pub decreases-loop-len : goal.decreases-loop-len
decreases-loop-len g l = l.most - l.len
