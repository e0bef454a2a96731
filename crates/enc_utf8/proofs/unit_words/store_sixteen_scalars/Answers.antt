use Rattle.std.proofs.Common.{◌∙◌, ◌++◌, ap, arith, subst, sym, take}
use Rattle.std.proofs.lemmas.Bool.{and_parts}
use Rattle.std.proofs.lemmas.List.{take_all}
use Rattle.std.specs.Char.{encode_utf8}
use Rattle.enc_utf8.specs.Text.{AreScalars, units_of_text}
use Rattle.enc_utf8.proofs.ScalarLemmas.{ascii_scalars, short_scalars}
use Rattle.enc_utf8.proofs.UnitWordsLemmas.{all_eight, all_scalars, all_stored}
use Rattle.enc_utf8.proofs.UnitWordsLemmas.{both_scalars, both_stored, front_of_both}
use Rattle.enc_utf8.proofs.unit_words.store_sixteen_scalars.Goals as goal

pub returns-then-are_both_ascii-clause-scalars : goal.returns-then-are_both_ascii-clause-scalars
returns-then-are_both_ascii-clause-scalars c =
    let ascii = c.are_both_ascii.ensures c.if-are_both_ascii.true in
    all_scalars c.args.units c.args.next c.fits-units.0 c.fits-next.0 (ascii_scalars _ ascii.0)
    (ascii_scalars _ ascii.1)

pub returns-then-are_both_ascii-clause-stored : goal.returns-then-are_both_ascii-clause-stored
returns-then-are_both_ascii-clause-stored c =
    all_stored c.args.units c.args.next c.fits-units.0 c.fits-next.0 _
    c.store_ascii-middle.ensures.stored c.store_ascii.ensures.stored

pub returns-then-are_both_short-clause-scalars : goal.returns-then-are_both_short-clause-scalars
returns-then-are_both_short-clause-scalars c =
    let short = c.are_both_short.ensures c.if-are_both_short.true in
    all_scalars c.args.units c.args.next c.fits-units.0 c.fits-next.0 (short_scalars _ short.0)
    (short_scalars _ short.1)

pub returns-then-are_both_short-clause-stored : goal.returns-then-are_both_short-clause-stored
returns-then-are_both_short-clause-stored c =
    all_stored c.args.units c.args.next c.fits-units.0 c.fits-next.0 _
    c.store_short-middle.ensures.stored c.store_short.ensures.stored

pub returns-then-are_scalars-clause-scalars : goal.returns-then-are_scalars-clause-scalars
returns-then-are_scalars-clause-scalars c =
    let both = and_parts _ _ c.if-are_scalars.true in
    all_scalars c.args.units c.args.next c.fits-units.0 c.fits-next.0
    (subst AreScalars (take_all 8 c.args.units (omega arith))
    (c.are_scalars.ensures.scalars both.0))
    (subst AreScalars (take_all 8 c.args.next (omega arith))
    (c.are_scalars-2.ensures.scalars both.1))

pub returns-then-are_scalars-clause-stored : goal.returns-then-are_scalars-clause-stored
returns-then-are_scalars-clause-stored c =
    all_stored c.args.units c.args.next c.fits-units.0 c.fits-next.0 _
    c.store_packed-middle.ensures.stored c.store_packed.ensures.stored

pub returns-then-count-lt8-clause-scalars : goal.returns-then-count-lt8-clause-scalars
returns-then-count-lt8-clause-scalars c =
    let before = c.units_before_surrogate-count.ensures in
    subst AreScalars (sym (front_of_both _ c.args.units c.args.next before.bound c.fits-units.0))
    before.scalars

pub returns-then-count-lt8-clause-stored : goal.returns-then-count-lt8-clause-stored
returns-then-count-lt8-clause-stored c =
    let before = c.units_before_surrogate-count.ensures in
    c.store_front.ensures.stored
    ∙ ap (λ us. take c.args.at c.args.buffer.now ++ units_of_text encode_utf8 us)
    (sym (front_of_both _ c.args.units c.args.next before.bound c.fits-units.0))

pub returns-clause-scalars : goal.returns-clause-scalars
returns-clause-scalars c =
    let before = c.units_before_surrogate-count.ensures in
    let all = all_eight _ c.args.units c.fits-units.0 before.bound (omega arith) in
    both_scalars c.args.units c.args.next c.fits-units.0 _ (subst AreScalars all before.scalars)
    c.units_before_surrogate-more.ensures.scalars

pub returns-clause-stored : goal.returns-clause-stored
returns-clause-stored c =
    both_stored c.args.units c.args.next c.fits-units.0 _ _ c.store_eight-middle.ensures.stored
    c.store_front-2.ensures.stored
