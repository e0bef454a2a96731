use Rattle.enc_decoder_iso_2022_jp.proofs.runs.InJis0208PairPieces.unit_at.Goals as goal

pub unit-requires : goal.unit-requires
unit-requires c = record { place = c.requires.place.1.within }

pub returns : goal.returns
returns c some bytes at =
    let is_unit = c.unit.ensures some in
    record { scalar = is_unit.1; means = at.char _ is_unit.0 }
