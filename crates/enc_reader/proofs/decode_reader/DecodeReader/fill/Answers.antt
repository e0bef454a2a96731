use Rattle.std.proofs.Common.{rules, ◌≡◌, false}
use Rattle.enc_reader.specs.Reader.{state_of}
use Rattle.enc_reader.proofs.SourceLemmas.{on_err}
use Rattle.enc_reader.proofs.LendingLemmas.{FailsToRead-pull, FailsToRead-filled}
use Rattle.enc_reader.proofs.FillingLemmas.{FillsCounted-none, FillsCounted-then, PullsChunk-closer}
use Rattle.enc_reader.proofs.decode_reader.DecodeReader.fill.Goals as goal

pub pulls-init : goal.pulls-init
pulls-init g c =
    record {
      filled = FillsCounted-none _ (state_of c.args.self.now) c.args.self.now.given;
      going = search rules;
      buffer_len = search rules;
      had_errors = search rules;
      kept = search rules;
      same_reader = search rules;
    }

pub pulls-preserved : goal.pulls-preserved
pulls-preserved g c =
    record {
      filled = FillsCounted-then c.pulls.invariant.filled
          (c.lacks_bytes.ensures.none_determined (search rules)) c.in_ok-pull.ensures.ok;
      going = search rules;
      buffer_len = search rules;
      had_errors = search rules;
      kept = search rules;
      same_reader = search rules;
    }

pub pulls-smaller : goal.pulls-smaller
pulls-smaller g c =
    let not_ended : c.pulls.self.ended ≡ false = search rules in
    PullsChunk-closer c.in_ok-pull.ensures.ok.pulls not_ended
    (c.lacks_bytes.ensures.few (search rules))

pub returns-in_err-pull-clause-err : goal.returns-in_err-pull-clause-err
returns-in_err-pull-clause-err g c =
    let reader = c.pulls.self in
    let invariant = c.pulls.invariant in
    let unended : reader.ended ≡ false = search rules in
    let failed = c.in_err-pull.ensures in
    on_err c.from_residual.result _
    (FailsToRead-filled invariant.filled.fills invariant.kept
    (FailsToRead-pull failed.none_given failed.err failed.same unended
    (reader.going invariant.going) (c.lacks_bytes.ensures.none_determined (search rules))))
