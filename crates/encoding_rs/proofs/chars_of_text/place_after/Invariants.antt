use Rattle.encoding_rs.proofs.CharsOfTextLemmas.{IsAfter}
use Rattle.encoding_rs.proofs.chars_of_text.place_after.Given as goal

abbrev pub invariant-loop : goal.invariant-loop
invariant-loop l = IsAfter l.text l.rest.rest.now l.counter
