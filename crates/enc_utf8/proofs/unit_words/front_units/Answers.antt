use Rattle.std.proofs.Common.{◌∙◌, ◌++◌, ap, refl, replicate, take, w16}
use Rattle.std.proofs.lemmas.List.{drop-replicate}
use Rattle.enc_utf8.proofs.FrontLanes.{front_lanes}
use Rattle.enc_utf8.proofs.unit_words.front_units.Goals as goal

pub returns : goal.returns
returns c =
    front_lanes w16 8 c.args.count _ c.args.units (replicate 8 0) refl refl c.fits-units.0 refl
    ∙ ap (λ z. take c.args.count c.args.units ++ z) (drop-replicate c.args.count 8 0)
