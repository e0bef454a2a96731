use Rattle.std.proofs.Common.{◌∙◌, get_or, ap, arith}
use Rattle.std.proofs.lemmas.List.{get_or-map}
use Rattle.enc_utf8.proofs.SwizzleLemmas.{places_fit, picked}
use Rattle.enc_utf8.proofs.swizzle.pick.Goals as goal

pub swizzle : goal.swizzle
swizzle c = places_fit c.args.places c.fits-places.0 c.requires.places

pub returns-clause-list : goal.returns-clause-list
returns-clause-list c = picked c.args.bytes c.args.places c.fits-places.0 c.requires.places

pub returns-clause-lanes : goal.returns-clause-lanes
returns-clause-lanes c k few =
    ap (λ z. get_or z k 0) (picked c.args.bytes c.args.places c.fits-places.0 c.requires.places)
    ∙ get_or-map (λ place. get_or c.args.bytes place 0) c.args.places k 0 0 (omega arith)
