use Rattle.enc_encode.proofs.UnitByteLemmas.{unit_bytes}
use Rattle.enc_encode.proofs.encoders.single_byte.SingleByteUnitRepertoire.unit_byte.Goals as goal

pub returns-clause-bytes : goal.returns-clause-bytes
returns-clause-bytes c some =
    let found = c.single_byte_of_unit.ensures in
    unit_bytes c.args.self.index c.args.unit _ (λ low. found.ascii low some)
    (λ high. found.others high some)
