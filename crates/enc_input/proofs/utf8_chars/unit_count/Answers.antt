use Rattle.enc_input.proofs.CharsLemmas.{utf8_length}
use Rattle.enc_input.proofs.utf8_chars.unit_count.Goals as goal

pub returns : goal.returns
returns c = utf8_length c.args.text.now c.utf8.text
