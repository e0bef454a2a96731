use Rattle.std.proofs.Common.{◌-◌, length}
use Rattle.enc_encoder.specs.Begun.{HasBegun}
use Rattle.enc_encoder.specs.Steps.{steps_from_state}
use Rattle.enc_encoder.specs.Writes.{place}
use Rattle.enc_encoder.proofs.ReferenceTurnLemmas.{Turned, turns_left}
use Rattle.enc_encoder.proofs.replacing.go_on_in_mode.Given as goal

abbrev pub invariant-loop-outcome : goal.invariant-loop-outcome
invariant-loop-outcome g l =
    (start : HasBegun g.C.Chars.units_of l.begun (g.E.RawEncoder.state l.fn.encoder)
    (g.C.Chars.rest l.fn.src) l.fn.dst)
    → Turned l.begun.last (length l.fn.dst - 10)
    (place (g.E.RawEncoder.state l.fn.encoder) start.given start.before 0)
    (place (g.E.RawEncoder.state l.encoder) (g.C.Chars.rest l.src) l.dst l.written) l.replaced
    l.outcome.result

-- each turn takes the step of a report off
abbrev pub decreases-loop-outcome : goal.decreases-loop-outcome
decreases-loop-outcome g l =
    turns_left l.outcome.result
    (length (steps_from_state (g.E.RawEncoder.state l.encoder) l.begun.last (g.C.Chars.rest l.src)))
