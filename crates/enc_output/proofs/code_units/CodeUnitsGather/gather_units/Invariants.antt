use Rattle.std.proofs.Common.{◌+◌, ◌-◌, length}
use Rattle.std.specs.Char.Escape.{encode_utf16}
use Rattle.enc_output.specs.Output.{buffer_output}
use Rattle.enc_output.proofs.GatherLemmas.{Gathered}
use Rattle.enc_output.proofs.code_units.CodeUnitsGather.gather_units.Given as goal

abbrev pub invariant-turns : goal.invariant-turns
invariant-turns g l =
    Gathered encode_utf16 (g.P.Pieces.means l.pieces)
    (buffer_output l.initial.out.len l.initial.out.units)
    (buffer_output l.out.len l.out.units) l.src (l.most + 16) l.read

abbrev pub decreases-turns : goal.decreases-turns
decreases-turns g l = length l.src - l.read
