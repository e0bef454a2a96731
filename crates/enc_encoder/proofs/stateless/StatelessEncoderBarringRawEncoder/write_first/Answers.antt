use Rattle.std.proofs.Common.{ap, subst, arith}
use Rattle.enc_encoder.specs.Runs.{WritesRun}
use Rattle.enc_encoder.specs.Stateless.{stateless_state}
use Rattle.enc_encoder.proofs.BarringLemmas.{none_barred, unlisted}
use Rattle.enc_encoder.proofs.RunLemmas.{writes_none}
use Rattle.enc_encoder.proofs.stateless.StatelessEncoderBarringRawEncoder.write_first.Goals as goal

pub returns-then-not-is_empty-clause-run : goal.returns-then-not-is_empty-clause-run
returns-then-not-is_empty-clause-run g c = writes_none _ _ _ _ (omega arith)

pub returns-clause-run : goal.returns-clause-run
returns-clause-run g c =
    subst (λ bytes. WritesRun (stateless_state bytes) (g.C.Chars.rest c.args.src.now)
    (g.C.Chars.rest c.write_run.new.src) c.args.dst.now c.write_run.new.dst 0 c.write_run.result)
    (unlisted _ _ _ (none_barred _ c.if-not-is_empty.ensures)
    (ap g.R.Repertoire.bytes_for c.new-encoder.ensures)) c.write_run.ensures
