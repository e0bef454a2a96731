use Rattle.enc_writer.specs.Writer.{writer_of}
use Rattle.enc_writer.proofs.SinkLemmas.{on_err, on_ok}
use Rattle.enc_writer.proofs.WritingLemmas.{HasWrittenText-keeps, WritesText-alone}
use Rattle.enc_writer.proofs.StoppingLemmas.{HasStopped-written, StopsText-by, StopsWithin-stopped, same_by}
use Rattle.enc_writer.proofs.PolicyLemmas.{HasWrittenWith-keeps, WritesWith-alone}
use Rattle.enc_writer.proofs.encode_writer.EncodeWriter.flush.Goals as goal

pub returns-clause-err : goal.returns-clause-err
returns-clause-err g c =
    on_err c.flush_sink.result _
    (StopsWithin-stopped (writer_of c.flush_sink.new.self)
    (HasStopped-written c.in_ok-push_held.ensures.ok.alone c.flush_sink.ensures.contents
    (same_by c.flush_sink.ensures.unchanged)))

pub returns-clause-stopped : goal.returns-clause-stopped
returns-clause-stopped g c =
    on_err c.flush_sink.result _
    (StopsText-by
    (HasStopped-written c.in_ok-push_held.ensures.ok.alone c.flush_sink.ensures.contents
    (same_by c.flush_sink.ensures.unchanged)))

pub returns-clause-ok : goal.returns-clause-ok
returns-clause-ok g c =
    on_ok c.flush_sink.result _
    (WritesText-alone (HasWrittenText-keeps c.in_ok-push_held.ensures.ok.alone
    c.flush_sink.ensures.contents c.flush_sink.ensures.unchanged))

pub returns-clause-policies : goal.returns-clause-policies
returns-clause-policies g c =
    on_ok c.flush_sink.result _
    (λ put. WritesWith-alone (HasWrittenWith-keeps (c.in_ok-push_held.ensures.policies put).alone
    c.flush_sink.ensures.contents c.flush_sink.ensures.unchanged))
