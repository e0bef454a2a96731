use Rattle.std.proofs.Common.{◌∙◌}
use Rattle.enc_writer.specs.Writing.{owed_bytes}
use Rattle.enc_writer.specs.Writer.{writer_of}
use Rattle.enc_writer.proofs.SinkLemmas.{AppendsContents-keeps, on_err}
use Rattle.enc_writer.proofs.StoppingLemmas.{HasStopped-ended, StopsText-by, StopsWithin-stopped, same_by}
use Rattle.enc_writer.proofs.PolicyLemmas.{EndsWith-by}
use Rattle.enc_writer.proofs.encode_writer.EncodeWriter.finish.Goals as goal

pub returns-in_err-flush_sink-clause-err : goal.returns-in_err-flush_sink-clause-err
returns-in_err-flush_sink-clause-err g c =
    on_err c.from_residual-in_err-flush_sink.result _
    (StopsWithin-stopped (writer_of c.flush_sink.new.self)
    (HasStopped-ended c.in_ok-had_unmappables.ensures.ok c.flush_sink.ensures.contents
    (same_by (c.flush_sink.ensures.unchanged ∙ c.in_ok-had_unmappables.ensures.ended))))

pub returns-in_err-flush_sink-clause-stopped : goal.returns-in_err-flush_sink-clause-stopped
returns-in_err-flush_sink-clause-stopped g c =
    on_err c.from_residual-in_err-flush_sink.result _
    (StopsText-by
    (HasStopped-ended c.in_ok-had_unmappables.ensures.ok c.flush_sink.ensures.contents
    (same_by (c.flush_sink.ensures.unchanged ∙ c.in_ok-had_unmappables.ensures.ended))))

pub returns-clause-ok : goal.returns-clause-ok
returns-clause-ok g c =
    λ k start text first.
    AppendsContents-keeps k _ _ (owed_bytes start text)
    (c.in_ok-had_unmappables.ensures.ok k start text first) c.flush_sink.ensures.contents

pub returns-clause-policies : goal.returns-clause-policies
returns-clause-policies g c =
    EndsWith-by
    (λ k start text first.
    AppendsContents-keeps k _ _ (owed_bytes start text)
    (c.in_ok-had_unmappables.ensures.ok k start text first) c.flush_sink.ensures.contents)
