use Rattle.enc_reader.proofs.PlacedLineLemmas.{TakesPart-after, StopsLine-fill, StopsLine-then}
use Rattle.enc_reader.proofs.PlacedLineLemmas.{HasTakenPart-filled, if_err}
use Rattle.enc_reader.proofs.line_reader.LineReader.take_next.Goals as goal

pub returns-in-Ok-clause-line_end : goal.returns-in-Ok-clause-line_end
returns-in-Ok-clause-line_end g c = λ line.
    TakesPart-after c.in-Ok.ensures.takes
    (rw c.fill.ensures.policy at c.take_held.ensures.line_end line)

pub returns-in-Ok-clause-part : goal.returns-in-Ok-clause-part
returns-in-Ok-clause-part g c = λ part.
    TakesPart-after c.in-Ok.ensures.takes
    (rw c.fill.ensures.policy at c.take_held.ensures.part part)

pub returns-in-Ok-clause-err : goal.returns-in-Ok-clause-err
returns-in-Ok-clause-err g c =
    let stops = rw c.fill.ensures.policy at c.take_held.ensures.err in
    if_err c.take_held.result stops
    (λ fault found. StopsLine-then (HasTakenPart-filled c.in-Ok.ensures.takes c.args.line.now)
    c.in-Ok.ensures.kept found)

pub returns-in-Err-clause-err : goal.returns-in-Err-clause-err
returns-in-Err-clause-err g c = StopsLine-fill _ c.in-Err.ensures.err
