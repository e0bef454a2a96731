use Rattle.std.proofs.Common.{◌≡◌, ◌∙◌, ◌+◌, arith, length}
use Rattle.enc_output.proofs.Utf8UnitsLemmas.{marked_load, stores_sixteen, dropped_beyond}
use Rattle.enc_output.proofs.utf8_units.store_sixteen.Goals as goal

pub returns-clause-stored : goal.returns-clause-stored
returns-clause-stored c =
    let long : length c.units_of-units.result ≡ 16 = omega arith in
    stores_sixteen _ long (marked_load c.args.src.now c.args.at _ _ c.requires.after
    c.marks_of-marks.ensures c.units_of-units.ensures) c.store_marked-middle.ensures.stored
    c.store_marked.ensures.stored

pub returns-clause-rest : goal.returns-clause-rest
returns-clause-rest c =
    let middle = c.store_marked-middle in
    dropped_beyond (middle.result + 8) (c.args.end + 16) c.store_marked.new.buffer middle.new.buffer
    (omega (arith, middle.ensures.bound)) c.store_marked.ensures.rest
    ∙ dropped_beyond (c.args.end + 8) (c.args.end + 16) middle.new.buffer c.args.buffer.now
    (omega arith) middle.ensures.rest
