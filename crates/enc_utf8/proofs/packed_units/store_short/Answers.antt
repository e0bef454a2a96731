use Rattle.std.proofs.Common.{◌∙◌, ◌++◌, ap, take}
use Rattle.enc_utf8.proofs.PackedTextLemmas.{short_text}
use Rattle.enc_utf8.proofs.packed_units.store_short.Goals as goal

pub returns-clause-stored : goal.returns-clause-stored
returns-clause-stored c =
    c.store_pairs.ensures.stored
    ∙ ap (λ z. take c.args.at c.args.buffer.now ++ z)
    (short_text c.args.units _ _ c.fits-units.0 c.requires.short c.short_fronts-pairs.ensures
    c.short_mask.ensures.lens)
