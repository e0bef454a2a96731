use Rattle.enc_writer.specs.Utf16Writer.{utf16_writer_of}
use Rattle.enc_writer.proofs.Utf16WritingLemmas.{written_none}
use Rattle.enc_writer.proofs.utf16_writer.Utf16Writer.make_room.Goals as goal

pub returns-then-self-ge-LEAST_ROOM-clause-ok : goal.returns-then-self-ge-LEAST_ROOM-clause-ok
returns-then-self-ge-LEAST_ROOM-clause-ok g c = written_none _ (utf16_writer_of c.args.self.now)
