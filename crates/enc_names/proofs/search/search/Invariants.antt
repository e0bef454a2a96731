use Rattle.std.proofs.Common.{◌-◌, ◌≤◌, length}
use Rattle.enc_names.specs.Place.{texts_of}
use Rattle.enc_names.proofs.WordSearchLemmas.{Halving}
use Rattle.enc_names.proofs.search.search.Given as goal

abbrev pub invariant-loop-low : goal.invariant-loop-low
invariant-loop-low l =
    record {
      halves : Halving (texts_of l.table) l.word l.low l.high;
      within : l.high ≤ length l.table;
    }

abbrev pub decreases-loop-low : goal.decreases-loop-low
decreases-loop-low l = l.high - l.low
