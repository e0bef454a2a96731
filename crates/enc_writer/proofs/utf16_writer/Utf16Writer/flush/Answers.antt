use Rattle.std.proofs.Common.{[], refl, ap, ◌∙◌, take}
use Rattle.enc_writer.specs.Utf16Writer.{utf16_writer_of}
use Rattle.enc_writer.proofs.SinkLemmas.{on_err, on_ok}
use Rattle.enc_writer.proofs.Utf16WritingLemmas.{stops_by, stops_none, stops_keeps, writes_by}
use Rattle.enc_writer.proofs.Utf16WritingLemmas.{written_keeps, written_none}
use Rattle.enc_writer.proofs.utf16_writer.Utf16Writer.flush.Goals as goal

pub returns-then-self-clause-err : goal.returns-then-self-clause-err
returns-then-self-clause-err g c = stops_none _ (utf16_writer_of c.args.self.now) []

pub returns-in_err-push-clause-err : goal.returns-in_err-push-clause-err
returns-in_err-push-clause-err g c =
    on_err c.from_residual.result _
    (stops_by [] (written_none _ (utf16_writer_of c.args.self.now)) refl
    c.in_err-push.ensures.err)

pub returns-clause-ok : goal.returns-clause-ok
returns-clause-ok g c =
    on_ok c.flush_sink.result _
    (writes_by (written_keeps c.in_ok-push.ensures.ok c.flush_sink.ensures.contents
    c.flush_sink.ensures.unchanged))

pub returns-clause-err : goal.returns-clause-err
returns-clause-err g c =
    on_err c.flush_sink.result _
    (stops_keeps c.in_ok-push.ensures.ok c.flush_sink.ensures.contents)
