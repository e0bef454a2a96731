use Rattle.std.proofs.Common.{length}
use Rattle.encoding_rs.proofs.CharsOfTextLemmas.{Converted}
use Rattle.encoding_rs.proofs.chars_of_text.utf16_of.Given as goal

abbrev pub invariant-loop-c : goal.invariant-loop-c
invariant-loop-c l = Converted l.text l.rest.rest.now l.units.items

abbrev pub decreases-loop-c : goal.decreases-loop-c
decreases-loop-c l = length l.rest.rest.now
