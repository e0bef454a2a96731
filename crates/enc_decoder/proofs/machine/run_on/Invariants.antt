use Rattle.std.proofs.Common.{◌≡◌, ◌+◌, ◌-◌, ◌*◌, ◌≤◌, length}
use Rattle.enc_output.specs.Output.{Output}
use Rattle.enc_decoder.specs.CodecState.{remainder_of}
use Rattle.enc_decoder.specs.Taking.{TakesRun}
use Rattle.enc_decoder.proofs.OutputStageLemmas.{Progress}
use Rattle.enc_decoder.proofs.machine.run_on.Given as goal

-- how far the call has come since the state and the output at its start, whichever they were
abbrev pub invariant-events : goal.invariant-events
invariant-events g l = record {
  within : l.read ≤ length l.src;
  progress : (old : g.row.C.Denot) (before : Output)
      → TakesRun g.U.Units.units_of g.C.ByteCodec.state old l.initial.codec l.src l.initial.read
      before (g.U.Units.output l.initial.out)
      → Progress g.U.Units.units_of (remainder_of (g.C.ByteCodec.state old))
      (remainder_of (g.C.ByteCodec.state l.state)) l.src l.options.last l.options.mode before
      (g.U.Units.output l.out) l.read l.replaced;
  rule : (g.C.ByteCodec.state l.state).rule ≡ (g.C.ByteCodec.state l.initial.codec).rule;
}

-- an unread byte counts twice, so that it may be held
abbrev pub decreases-events : goal.decreases-events
decreases-events g l =
    2 * (length l.src - l.read) + length (g.C.ByteCodec.state l.state).pending
