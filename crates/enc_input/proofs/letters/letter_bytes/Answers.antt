use Rattle.enc_utf8.proofs.Lanes.{itself, splat_over, by_op}
use Rattle.enc_input.proofs.LetterLemmas.{sub16}
use Rattle.enc_input.proofs.letters.letter_bytes.Goals as goal

pub returns : goal.returns
returns c =
    let units = c.args.units in
    (by_op (itself units) (splat_over units 16 c.args.letters.shift c.fits-units.0) sub16).is
