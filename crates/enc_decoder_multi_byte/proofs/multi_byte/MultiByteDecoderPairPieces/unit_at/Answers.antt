use Rattle.enc_decoder_multi_byte.proofs.multi_byte.MultiByteDecoderPairPieces.unit_at.Goals as goal

pub unit-requires : goal.unit-requires
unit-requires g c = record { place = c.requires.place.1.within }

pub returns : goal.returns
returns g c some bytes at =
    let is_unit = c.unit.ensures some in
    record { scalar = is_unit.1; means = at.char c.unit.result is_unit.0 }
