use Rattle.enc_decoder_multi_byte.proofs.MultiBytePieces.{byte_place}
use Rattle.enc_decoder_multi_byte.proofs.multi_byte.MultiByteDecoderPairPieces.places.Goals as goal

pub returns : goal.returns
returns g c i l =
    byte_place g.E.Index.DoubleByteIndex.shape g.E.MultiByte.prefix _ _ _ c.laws.ensures.ascii
    (c.pair_places.ensures i l)
    (c.with_ascii.ensures.leads i l)
    (c.with_ascii.ensures.places i l)
