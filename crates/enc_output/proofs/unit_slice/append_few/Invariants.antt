use Rattle.std.proofs.Common.{◌-◌, length}
use Rattle.enc_output.specs.PieceRuns.{PutsPieces}
use Rattle.enc_output.proofs.unit_slice.append_few.Given as goal

abbrev pub invariant-loop-count : goal.invariant-loop-count
invariant-loop-count g l =
    PutsPieces g.U.UnitSlice.units_of (g.P.Pieces.means l.pieces)
    (g.U.UnitSlice.output l.initial.out) (g.U.UnitSlice.output l.out) l.src l.at

abbrev pub decreases-loop-count : goal.decreases-loop-count
decreases-loop-count g l = length l.src - l.at
