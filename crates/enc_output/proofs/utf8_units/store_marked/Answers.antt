use Rattle.std.proofs.Common.{◌%◌, arith}
use Rattle.enc_output.proofs.MaskedUnitLemmas.{row_is, row_long, stores_marked}
use lib.Lanes.{digits_l, number_l}
use Rattle.std.proofs.Common.{refl, ◌+◌}
use Rattle.enc_utf8.proofs.PutLemmas.{put_rest, put_lanes}
use Rattle.enc_output.proofs.utf8_units.store_marked.Goals as goal

pub pick-requires : goal.pick-requires
pick-requires c = record { places = (row_is (c.args.marks % 0x100) (omega arith)).within }

pub returns-clause-stored : goal.returns-clause-stored
returns-clause-stored c =
    let args = c.args in
    let mask = args.marks % 0x100 in
    stores_marked args.at args.marks args.units _ _ args.buffer.now c.requires.room c.fits-units.0
    c.fits-units.1
    (row_long mask (omega arith)) (row_is mask (omega arith))
    c.pick.ensures.list

pub returns-clause-rest : goal.returns-clause-rest
returns-clause-rest c =
    let eight = digits_l 0x1_0000 8 (number_l 0x100 c.pick.result) in
    put_rest (put_lanes 8 c.args.at c.args.buffer.now eight c.requires.room refl) (c.args.at + 8)
    (omega arith)
