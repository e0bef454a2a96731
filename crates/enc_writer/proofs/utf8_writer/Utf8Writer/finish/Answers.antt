use Rattle.enc_writer.proofs.Utf8WritingLemmas.{utf8_ends, utf8_end_stops}
use Rattle.enc_writer.proofs.utf8_writer.Utf8Writer.finish.Goals as goal

pub returns-in-Ok-clause-ok : goal.returns-in-Ok-clause-ok
returns-in-Ok-clause-ok g c =
    utf8_ends (rw c.replace-decoder.ensures.value at c.in_default.ensures.ok)
    c.in_default.ensures.ended c.in-Ok.ensures.ok

pub returns-in-Err-finish-clause-err : goal.returns-in-Err-finish-clause-err
returns-in-Err-finish-clause-err g c =
    utf8_end_stops (rw c.replace-decoder.ensures.value at c.in_default.ensures.ok)
    c.in-Err-finish.ensures.err c.in_default.ensures.ended
