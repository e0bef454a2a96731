use Rattle.std.proofs.Common.{◌+◌, ◌-◌, ◌*◌, ◌≤◌, drop}
use Rattle.enc_output.specs.PieceRuns.{PutsPieces}
use Rattle.enc_output.proofs.single_bytes.store_bytes.Given as goal

abbrev pub invariant-loop-read : goal.invariant-loop-read
invariant-loop-read g l =
    (l.read ≤ l.count)
    × ((g.B.UnitBuffer.output l.initial.out).room
    ≤ (g.B.UnitBuffer.output l.out).room + 4 * l.read)
    × PutsPieces g.B.UnitBuffer.units_of (g.P.Pieces.means l.pieces)
    (g.B.UnitBuffer.output l.initial.out) (g.B.UnitBuffer.output l.out) (drop l.from l.src) l.read

abbrev pub decreases-loop-read : goal.decreases-loop-read
decreases-loop-read g l = l.count - l.read
