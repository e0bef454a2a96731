use Rattle.enc_encode.proofs.RepertoireLaws.{single_byte}
use Rattle.enc_encode.proofs.laws.SingleByteLawfulRepertoire.laws.Goals as goal

pub returns : goal.returns
returns c = single_byte c.args.self.index
