use Rattle.std.proofs.Common.{take}
use Rattle.enc_utf8.proofs.PackedTextLemmas.{both_halves}
use Rattle.enc_utf8.proofs.packed_units.store_packed.Goals as goal

pub returns-clause-stored : goal.returns-clause-stored
returns-clause-stored c =
    both_halves c.args.units c.args.words c.mask_of-mask.result c.fits-units.0 c.fits-units.1
    c.requires.words c.mask_of-mask.ensures.lens (take c.args.at c.args.buffer.now)
    c.store_triples-middle.ensures.stored c.store_triples.ensures.stored
