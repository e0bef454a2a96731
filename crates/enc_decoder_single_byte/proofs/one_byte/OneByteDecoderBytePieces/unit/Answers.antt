use Rattle.enc_decoder_single_byte.proofs.OneByteLemmas.{one_byte_piece}
use Rattle.enc_decoder_single_byte.proofs.one_byte.OneByteDecoderBytePieces.unit.Goals as goal

pub returns : goal.returns
returns g c some =
    let is_unit = c.unit_of.ensures some in
    record { scalar = is_unit.1; means = one_byte_piece _ _ _ is_unit.0 }
