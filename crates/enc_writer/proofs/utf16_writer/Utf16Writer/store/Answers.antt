use Rattle.enc_writer.proofs.Utf16WritingLemmas.{written_stored}
use Rattle.enc_writer.proofs.utf16_writer.Utf16Writer.store.Goals as goal

pub returns-clause-stored : goal.returns-clause-stored
returns-clause-stored g c = written_stored _ c.store_front-read.ensures.stored
