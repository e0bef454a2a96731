use Rattle.std.proofs.Common.{◌∙◌, ap, arith, bit_and, cond, ltb, map, w16}
use Rattle.std.proofs.lemmas.Simd.{Each1-all, Each1-zip2, Each2-splat}
use Rattle.std.proofs.lemmas.List.{map-id}
use Rattle.enc_utf8.proofs.Lanes.{IsLanes, itself, splat_over, by_op, chosen, flag}
use Rattle.enc_input.proofs.LetterLemmas.{low_eight}
use Rattle.enc_input.specs.Letters.{letter_byte}
use Rattle.enc_input.proofs.letters.bytes_of_plain.Goals as goal

pub overflow_cast-result : goal.overflow_cast-result
overflow_cast-result c =
    Each1-zip2 _ _ _ _
    (Each2-splat _ _ 16 0xFF (Each1-all _ (λ u. omega (arith, low_eight u)) _))

pub returns : goal.returns
returns c =
    let units = c.args.units in
    let bytes : IsLanes units c.letter_bytes-bytes.result (letter_byte c.args.letters) =
    record { is = c.letter_bytes-bytes.ensures } in
    let ascii = by_op (itself units) (splat_over units 16 0x80 c.fits-units.0) (flag w16 ltb) in
    map-id _
    ∙ (by_op (chosen w16 _ ascii (itself units) bytes) (splat_over units 16 0xFF c.fits-units.0)
    bit_and).is
    ∙ ap (λ f. map f units)
    (λ i u. low_eight (cond (ltb u 0x80) u (letter_byte c.args.letters u)) i)
