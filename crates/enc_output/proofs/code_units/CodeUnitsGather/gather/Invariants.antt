use Rattle.std.proofs.Common.{◌+◌, ◌-◌, ◌<◌, ◌≤◌, length}
use Rattle.std.specs.Char.{encode_utf8}
use Rattle.enc_output.specs.Output.{buffer_output, room_in}
use Rattle.enc_output.proofs.GatherLemmas.{Gathered}
use Rattle.enc_output.proofs.code_units.CodeUnitsGather.gather.Given as goal

abbrev pub invariant-turns : goal.invariant-turns
invariant-turns g l =
    Gathered encode_utf8 (g.P.Pieces.means l.pieces)
    (buffer_output l.initial.out.len l.initial.out.units)
    (buffer_output l.out.len l.out.units) l.src (l.most + 52) l.read

abbrev pub decreases-turns : goal.decreases-turns
decreases-turns g l = length l.src - l.read

abbrev pub invariant-singles : goal.invariant-singles
invariant-singles g l =
    (l.initial.read ≤ l.read) × (l.read < length l.src) × (4 ≤ room_in l.out.len l.out.units)
    × Gathered encode_utf8 (g.P.Pieces.means l.pieces)
    (buffer_output l.fn.out.len l.fn.out.units)
    (buffer_output l.out.len l.out.units) l.src (l.most + 52) l.read

abbrev pub decreases-singles : goal.decreases-singles
decreases-singles g l = length l.src - l.read
