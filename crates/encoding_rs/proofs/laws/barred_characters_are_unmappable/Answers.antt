use Rattle.encoding_rs.proofs.BarringLemmas.{unmappable_if_in}
use Rattle.encoding_rs.proofs.laws.barred_characters_are_unmappable.Goals as goal

pub returns : goal.returns
returns c = λ b x h. unmappable_if_in b c.args.encoding x h
