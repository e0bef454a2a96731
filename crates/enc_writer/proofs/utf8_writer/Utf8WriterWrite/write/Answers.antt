use Rattle.enc_writer.proofs.Utf8WritingLemmas.{utf8_by}
use Rattle.enc_writer.proofs.utf8_writer.Utf8WriterWrite.write.Goals as goal

pub returns-in-Ok-clause-ok : goal.returns-in-Ok-clause-ok
returns-in-Ok-clause-ok g c = utf8_by c.in-Ok.ensures.ok
