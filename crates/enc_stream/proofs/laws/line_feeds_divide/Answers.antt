use Rattle.std.specs.Prelude.{[], ◌∷◌, ◌++◌}
use Rattle.enc_stream.specs.declared.bom.BomHandling.TheVariants.{Off}
use Rattle.enc_stream.specs.Decoding.{whole_sequences}
use Rattle.enc_stream.proofs.PropertyLemmas.{divided_below_digits}
use Rattle.enc_stream.proofs.DivisionLemmas.{utf_8_is_divided, flag_is_divided}
use Rattle.enc_stream.proofs.laws.line_feeds_divide.Goals as goal

pub returns-clause-sequences : goal.returns-clause-sequences
returns-clause-sequences c = λ compatible b low.
    divided_below_digits c.args.encoding compatible b low

pub returns-clause-text : goal.returns-clause-text
returns-clause-text c = λ compatible b low front back.
    utf_8_is_divided _ (whole_sequences Off c.args.encoding (front ++ b ∷ []))
    (whole_sequences Off c.args.encoding back)
    (divided_below_digits c.args.encoding compatible b low front back)

pub returns-clause-flag : goal.returns-clause-flag
returns-clause-flag c = λ compatible b low front back.
    flag_is_divided _ (whole_sequences Off c.args.encoding (front ++ b ∷ []))
    (whole_sequences Off c.args.encoding back)
    (divided_below_digits c.args.encoding compatible b low front back)
