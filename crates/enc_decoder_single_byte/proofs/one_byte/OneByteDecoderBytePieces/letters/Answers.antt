use Rattle.enc_decoder_single_byte.proofs.OneByteLemmas.{one_byte_piece}
use Rattle.enc_decoder_single_byte.proofs.one_byte.OneByteDecoderBytePieces.letters.Goals as goal

pub returns : goal.returns
returns g c b low high =
    let is = c.letters_of.ensures b low high in
    (record { scalar = is.1; means = one_byte_piece _ _ _ is.0 }, is.2)
