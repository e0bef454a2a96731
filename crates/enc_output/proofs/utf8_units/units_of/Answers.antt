use Rattle.std.proofs.Common.{◌∙◌, ◌+◌, get_or, ap}
use Rattle.std.proofs.lemmas.Simd.{get_or-chunk}
use Rattle.enc_output.specs.Utf8Units.{gives_unit}
use Rattle.enc_output.proofs.Utf8UnitsLemmas.{units_here, first_alone}
use Rattle.enc_output.proofs.utf8_units.units_of.Goals as goal

pub returns-then-are_narrow-2 : goal.returns-then-are_narrow-2
returns-then-are_narrow-2 c k below g =
    c.narrow_units.ensures k below (c.are_narrow.ensures c.if-are_narrow.true k below)
    (ap (gives_unit 0) (get_or-chunk c.args.at 16 c.args.src.now k 0 below)
    ∙ first_alone _ (get_or c.args.src.now (c.args.at + k) 0)
    (c.are_narrow-then-are_narrow.ensures c.if-are_narrow-2.true k below) g)
    ∙ units_here c.args.src.now c.args.at k below

pub returns : goal.returns
returns c k below g = c.all_units.ensures k below ∙ units_here c.args.src.now c.args.at k below
