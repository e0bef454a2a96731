use Rattle.enc_index.proofs.GridEntries.{is_unit, unit_found}
use Rattle.enc_index.proofs.SingleByteLemmas.{units_fit, ascii_found, pointer_found}
use Rattle.enc_index.proofs.single_byte_index.SingleByteIndex.unit.Goals as goal

pub returns-clause-ascii : goal.returns-clause-ascii
returns-clause-ascii c l some = unit_found _ _ (ascii_found is_unit c.args.self _ c.args.byte _
    (units_fit c.args.self c.number-from.ensures.which) c.unit_in.ensures some l)

pub returns-clause-others : goal.returns-clause-others
returns-clause-others c l some = unit_found _ _ (pointer_found is_unit c.args.self _ c.args.byte _
    (units_fit c.args.self c.number-from.ensures.which) c.unit_in.ensures some l
    c.ranges.byte.fits)
