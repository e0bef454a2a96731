use Rattle.enc_decoder.proofs.PrefixLemmas.{complete_one}
use Rattle.enc_decoder_multi_byte.proofs.multi_byte.MultiByteDecoderPieces.has_ascii.Goals as goal

pub returns : goal.returns
returns g c _ b h = complete_one g.E.MultiByte.prefix b b (c.laws.ensures.ascii b h)
