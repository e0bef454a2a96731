use Rattle.enc_decoder_single_byte.proofs.OneByteLemmas.{one_byte_prefixes}
use Rattle.enc_decoder_single_byte.proofs.one_byte.OneByteDecoderPrefixCodec.laws.Goals as goal

pub returns-clause-prefixes : goal.returns-clause-prefixes
returns-clause-prefixes g c = one_byte_prefixes _
