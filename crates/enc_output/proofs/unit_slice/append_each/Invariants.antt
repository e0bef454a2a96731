use Rattle.std.proofs.Common.{◌-◌, length}
use Rattle.enc_output.specs.PieceRuns.{PutsPieces}
use Rattle.enc_output.proofs.unit_slice.append_each.Given as goal

abbrev pub invariant-loop-at : goal.invariant-loop-at
invariant-loop-at g l =
    PutsPieces g.U.UnitSlice.units_of (g.P.Pieces.means l.pieces)
    (g.U.UnitSlice.output l.initial.out) (g.U.UnitSlice.output l.out) l.src l.at

abbrev pub decreases-loop-at : goal.decreases-loop-at
decreases-loop-at g l = length l.src - l.at
