use Rattle.std.proofs.Common.{ℕ, ◌%◌, ◌≡◌, map, ap, ◌∙◌, arith, bit_and}
use Rattle.std.proofs.lemmas.Nat.{and_mask}
use Rattle.std.proofs.lemmas.Simd.{Each1-all, Each1-zip2, Each2-splat, zip2_splat, map-map}
use Rattle.enc_input.proofs.utf16_mapped.low_bytes.Goals as goal

low_bits : (u : ℕ) → bit_and u 127 ≡ u % 128
low_bits u = and_mask u 7

pub overflow_cast-result : goal.overflow_cast-result
overflow_cast-result g c =
    Each1-zip2 _ _ _ _
    (Each2-splat _ _ g.row.N 127 (Each1-all _ (λ u. omega (arith, low_bits u)) _))

pub returns : goal.returns
returns g c = ap (map _) (zip2_splat bit_and c.args.units g.row.N 127 c.fits-units.0)
    ∙ map-map _ _ c.args.units
    ∙ ap (λ f. map f c.args.units) (λ i u. low_bits u i)
