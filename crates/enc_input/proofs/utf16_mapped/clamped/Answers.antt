use Rattle.std.proofs.Common.{ap, ◌∙◌, ltb, map, w16}
use Rattle.enc_utf8.proofs.Lanes.{itself, splat_over, by_op, chosen, flag}
use Rattle.enc_input.proofs.Utf16MappedLemmas.{least}
use Rattle.enc_input.proofs.utf16_mapped.clamped.Goals as goal

pub returns : goal.returns
returns c =
    let units = c.args.units in
    let most = splat_over units 16 0x7FF c.fits-units.0 in
    (chosen w16 _ (by_op (itself units) most (flag w16 ltb)) (itself units) most).is
    ∙ ap (λ f. map f units) (λ i u. least u 0x7FF i)
