use Rattle.std.proofs.Common.{arith, take}
use Rattle.enc_utf8.proofs.UnitWordsLemmas.{front_stored, others_stored}
use Rattle.enc_utf8.proofs.unit_words.store_front.Goals as goal

pub overflow_sub-result-2 : goal.overflow_sub-result-2
overflow_sub-result-2 c =
    let eight = c.store_eight-end.ensures in
    others_stored c.args.count c.args.units (take c.args.at c.args.buffer.now) _
    (omega (arith, eight.bound, eight.len)) c.front_units.ensures eight.stored

pub returns-clause-stored : goal.returns-clause-stored
returns-clause-stored c =
    let eight = c.store_eight-end.ensures in
    front_stored c.args.count c.args.units (take c.args.at c.args.buffer.now) _
    (omega (arith, eight.bound, eight.len)) c.front_units.ensures eight.stored
