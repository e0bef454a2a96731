use Rattle.enc_decoder_multi_byte.proofs.MultiByteEnough.{multi_bytes_enough}
use Rattle.enc_decoder_multi_byte.proofs.multi_byte.MultiByteDecoderPrefixCodec.lengths.Goals as goal

pub returns-clause-enough : goal.returns-clause-enough
returns-clause-enough g c = multi_bytes_enough _ c.laws.ensures _
