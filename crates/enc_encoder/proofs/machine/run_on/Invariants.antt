use Rattle.std.proofs.Common.{length}
use Rattle.enc_encoder.specs.Steps.{steps_from_state}
use Rattle.enc_encoder.specs.Writes.{Writes, place}
use Rattle.enc_encoder.proofs.machine.run_on.Given as goal

abbrev pub invariant-loop-taken : goal.invariant-loop-taken
invariant-loop-taken g l =
    Writes l.begun.last
    (place (g.E.CharEncoder.state l.fn.encoder) (g.C.Chars.rest l.fn.src) l.fn.dst l.begun.written)
    (place (g.E.CharEncoder.state l.state) (g.C.Chars.rest l.src) l.dst l.written)

-- each turn takes one step off
abbrev pub decreases-loop-taken : goal.decreases-loop-taken
decreases-loop-taken g l =
    length (steps_from_state (g.E.CharEncoder.state l.state) l.begun.last (g.C.Chars.rest l.src))
