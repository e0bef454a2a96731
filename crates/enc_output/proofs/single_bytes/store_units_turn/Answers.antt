use Rattle.std.proofs.Common.{arith, ap, length}
use Rattle.enc_utf8.proofs.LengthLemmas.{lengths}
use Rattle.enc_output.proofs.LetterLemmas.{plain_put}
use Rattle.enc_output.proofs.single_bytes.store_units_turn.Goals as goal

pub returns-then-are_plain-clause-puts : goal.returns-then-are_plain-clause-puts
returns-then-are_plain-clause-puts g c =
    let back = c.split_at.ensures.back in
    rw (← back) (plain_put c.args.letters c.split_at.result.1.now c.units_of_plain.result
    c.requires.letters (c.has_ascii.ensures c.if-has_ascii.true)
    (omega (arith, lengths, ap length back, c.requires.from)) (omega arith) c.requires.room
    (c.are_plain.ensures c.if-are_plain.true) c.units_of_plain.ensures
    c.store_sixteen_units.ensures.stored)
