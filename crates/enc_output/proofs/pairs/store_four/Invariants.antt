use Rattle.std.proofs.Common.{◌≡◌, ℕ, ◌+◌, ◌-◌, ◌*◌, ◌≤◌, List, length, drop}
use Rattle.enc_utf8.specs.Ends.{end_after}
use Rattle.enc_output.specs.PieceRuns.{PutsPieces}
use Rattle.enc_output.specs.Places.{ArePlaces}
use Rattle.enc_output.proofs.pairs.store_four.Given as goal

abbrev pub invariant-loop-count : goal.invariant-loop-count
invariant-loop-count g l =
    (l.count ≤ 4) × (l.read ≡ end_after l.ends l.count) × (l.read ≤ 2 * l.count)
    × ((g.B.UnitBuffer.output l.initial.out).room
    ≤ (g.B.UnitBuffer.output l.out).room + 4 * l.count)
    × ((src : List ℕ) → 8 ≤ length src
    → ArePlaces (g.P.PairPieces.stands_for l.pieces) 8 (drop l.start.from l.places) l.start.leads
    src (drop 1 src)
    → PutsPieces g.B.UnitBuffer.units_of (g.P.Pieces.means l.pieces)
    (g.B.UnitBuffer.output l.initial.out) (g.B.UnitBuffer.output l.out) src l.read)

abbrev pub decreases-loop-count : goal.decreases-loop-count
decreases-loop-count g l = 4 - l.count
