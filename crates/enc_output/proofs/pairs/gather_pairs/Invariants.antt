use Rattle.std.proofs.Common.{◌+◌, ◌-◌, length}
use Rattle.enc_output.proofs.GatherLemmas.{Gathered}
use Rattle.enc_output.proofs.pairs.gather_pairs.Given as goal

abbrev pub invariant-loop-pieces : goal.invariant-loop-pieces
invariant-loop-pieces g l =
    Gathered g.B.UnitBuffer.units_of (g.P.Pieces.means l.pieces)
    (g.B.UnitBuffer.output l.initial.out) (g.B.UnitBuffer.output l.out) l.src (l.most + 36) l.read

abbrev pub decreases-loop-pieces : goal.decreases-loop-pieces
decreases-loop-pieces g l = length l.src - l.read
