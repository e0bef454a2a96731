use Rattle.enc_decoder_single_byte.proofs.OneByteLemmas.{one_byte_piece}
use Rattle.enc_decoder_single_byte.proofs.one_byte.OneByteDecoderPieces.has_ascii.Goals as goal

pub returns : goal.returns
returns g c _ b low = one_byte_piece _ b b (c.laws.ensures.ascii b low)
