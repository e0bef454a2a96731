use Rattle.std.proofs.Common.{rules, ◌≡◌, ◌∙◌, take, refl}
use Rattle.enc_writer.proofs.Utf16Lemmas.{front_boundary, units_written}
use Rattle.enc_writer.proofs.utf16_units.units_of_front.Goals as goal

pub returns-clause-boundary : goal.returns-clause-boundary
returns-clause-boundary c =
    let puts = c.put_front-read.ensures.puts in
    front_boundary puts.scalars puts.reads c.utf8.text

pub returns-clause-units : goal.returns-clause-units
returns-clause-units c =
    let out = c.put_front-read.new.out in
    let same : take c.len.result _ ≡ take out.len out.dst.now = search rules in
    same ∙ units_written c.put_front-read.ensures.puts (rw c.new-out.ensures.len refl)
