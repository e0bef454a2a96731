use Rattle.std.proofs.Common.{arith, sym, subst}
use Rattle.std.proofs.lemmas.List.{take_all}
use Rattle.enc_utf8.specs.Text.{AreScalars}
use Rattle.enc_utf8.proofs.ScalarLemmas.{ascii_scalars, short_scalars}
use Rattle.enc_utf8.proofs.unit_words.store_scalars.Goals as goal

pub returns-then-are_ascii_units-clause-scalars : goal.returns-then-are_ascii_units-clause-scalars
returns-then-are_ascii_units-clause-scalars c =
    subst AreScalars (sym (take_all 8 c.args.units (omega arith)))
    (ascii_scalars c.args.units (c.are_ascii_units.ensures c.if-are_ascii_units.true))

pub returns-then-are_short-clause-scalars : goal.returns-then-are_short-clause-scalars
returns-then-are_short-clause-scalars c =
    subst AreScalars (sym (take_all 8 c.args.units (omega arith)))
    (short_scalars c.args.units (c.are_short.ensures c.if-are_short.true))
