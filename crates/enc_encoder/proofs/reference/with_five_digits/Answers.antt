use Rattle.std.proofs.Common.{◌∷◌, [], ap, sym}
use Rattle.enc_encoder.proofs.ReferenceLemmas.{five_digits}
use Rattle.enc_encoder.proofs.reference.with_five_digits.Goals as goal

pub returns : goal.returns
returns c =
    let digits = five_digits c.args.number (0x3B ∷ []) c.requires.least c.requires.most in
    rw (
      c.last_digit.ensures,
      c.last_digit-2.ensures,
      c.last_digit-3.ensures,
      c.last_digit-4.ensures,
      c.last_digit-5.ensures,
    )
    (sym (ap (λ t. 38 ∷ 35 ∷ t) digits))
