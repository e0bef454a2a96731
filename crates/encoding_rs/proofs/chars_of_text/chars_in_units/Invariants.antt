use Rattle.encoding_rs.specs.Run.{units_of_call}
use Rattle.encoding_rs.proofs.CharsOfTextLemmas.{IsAfter, Leaves}
use Rattle.encoding_rs.proofs.chars_of_text.chars_in_units.Given as goal

abbrev pub invariant-loop-left : goal.invariant-loop-left
invariant-loop-left l = record {
  follows : IsAfter l.text l.rest.rest.now l.count;
  leaves : Leaves (units_of_call l.utf16) l.text l.rest.rest.now l.units l.count l.left;
}

abbrev pub decreases-loop-left : goal.decreases-loop-left
decreases-loop-left l = l.left
