use Rattle.enc_input.proofs.CharsLemmas.{utf16_length}
use Rattle.enc_input.proofs.utf16_chars.unit_count.Goals as goal

pub returns : goal.returns
returns c = utf16_length c.args.units.now (λ i. (c.type_inv.units i).fits)
