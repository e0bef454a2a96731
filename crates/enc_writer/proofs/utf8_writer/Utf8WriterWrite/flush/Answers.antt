use Rattle.std.proofs.Common.{[], refl}
use Rattle.enc_writer.specs.Utf8Writer.{utf8_writer_of}
use Rattle.enc_writer.proofs.Utf8WritingLemmas.{read_none, utf8_by, utf8_flushed, utf8_stops}
use Rattle.enc_writer.specs.Utf8Writing.{text_to_come}
use Rattle.enc_writer.proofs.utf8_writer.Utf8WriterWrite.flush.Goals as goal

pub returns-in-Ok-clause-ok : goal.returns-in-Ok-clause-ok
returns-in-Ok-clause-ok g c = utf8_by (utf8_flushed c.in-Ok.ensures.ok.alone)

pub returns-in-Err-clause-err : goal.returns-in-Err-clause-err
returns-in-Err-clause-err g c =
    utf8_stops [] (λ z. text_to_come c.args.self.now.decoder z)
    (read_none _ (utf8_writer_of c.args.self.now) [] _) (λ z ends. refl) c.in-Err.ensures.err
