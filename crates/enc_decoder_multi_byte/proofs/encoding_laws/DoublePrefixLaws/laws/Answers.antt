use Rattle.enc_decoder_multi_byte.proofs.DoubleByteLemmas.{double_byte_laws}
use Rattle.enc_decoder_multi_byte.proofs.encoding_laws.DoublePrefixLaws.laws.Goals as goal

pub returns : goal.returns
returns g c = double_byte_laws _ _ _ c.laws.ensures
