use Rattle.std.proofs.Common.{◌∷◌, [], ap, sym}
use Rattle.enc_encoder.proofs.ReferenceLemmas.{four_digits}
use Rattle.enc_encoder.proofs.reference.with_four_digits.Goals as goal

pub returns : goal.returns
returns c =
    let digits = four_digits c.args.number (0x3B ∷ []) c.requires.least c.requires.most in
    rw (
      c.last_digit.ensures,
      c.last_digit-2.ensures,
      c.last_digit-3.ensures,
      c.last_digit-4.ensures,
    )
    (sym (ap (λ t. 38 ∷ 35 ∷ t) digits))
