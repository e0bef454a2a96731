use Rattle.std.proofs.Common.{◌≡◌, ◌+◌, ◌-◌, ◌*◌, ◌/◌, ◌^◌, ◌≤◌}
use Rattle.enc_output.specs.PieceRuns.{PutsPieces}
use Rattle.enc_output.proofs.pairs.store_places.Given as goal

abbrev pub invariant-loop-read : goal.invariant-loop-read
invariant-loop-read g l =
    (l.read ≤ l.len) × (l.read ≤ 17) × (l.leads ≡ l.initial.leads / 2 ^ l.read)
    × ((g.B.UnitBuffer.output l.initial.out).room
    ≤ (g.B.UnitBuffer.output l.out).room + 4 * l.read)
    × PutsPieces g.B.UnitBuffer.units_of (g.P.Pieces.means l.pieces)
    (g.B.UnitBuffer.output l.initial.out) (g.B.UnitBuffer.output l.out) l.src l.read

abbrev pub decreases-loop-read : goal.decreases-loop-read
decreases-loop-read g l = 17 - l.read
