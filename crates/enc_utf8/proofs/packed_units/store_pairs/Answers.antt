use Rattle.std.proofs.Common.{arith}
use Rattle.enc_utf8.proofs.PackedLemmas.{pair_row, stores_row}
use Rattle.enc_utf8.proofs.packed_units.store_pairs.Goals as goal

pub pick-requires : goal.pick-requires
pick-requires c = record { places = (pair_row c.args.mask c.requires.mask).within }

pub returns-clause-stored : goal.returns-clause-stored
returns-clause-stored c =
    stores_row c.args.at _ _ _ _ c.args.buffer.now c.pick.result c.requires.room (omega arith)
    (pair_row c.args.mask c.requires.mask) c.pick.ensures.list
