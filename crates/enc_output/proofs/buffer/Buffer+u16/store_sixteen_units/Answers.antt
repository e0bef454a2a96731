use Rattle.std.proofs.Common.{arith, ap, ◌∙◌}
use Rattle.std.proofs.lemmas.List.{take_all}
use Rattle.enc_output.specs.Output.{with_appended}
use Rattle.enc_output.proofs.GatherLemmas.{lanes_put}
use Rattle.enc_output.proofs.buffer.Buffer+u16.store_sixteen_units.Goals as goal

pub returns-clause-stored : goal.returns-clause-stored
returns-clause-stored c =
    let slice = c.args.self.now in
    let units = c.args.units in
    let long = c.fits-units.0 in
    lanes_put slice.len 16 slice.units.now units slice.units.ghost_name (omega arith)
    (omega (arith, long)) (omega (arith, long))
    ∙ ap (with_appended _) (take_all 16 units (omega (arith, long)))
