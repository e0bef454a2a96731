-- The state of a `Utf8Writer`.
use Rattle.enc_writer.specs.declared.utf8_writer.Utf8Writer.{Utf8Writer}
use Rattle.enc_writer.specs.Utf8Writing.{Utf8State}
use Rattle.enc_writer.specs.Writer.{writer_of}

-- its decoder, and the state of its writer
abbrev pub utf8_writer_of : {T : Type 0} {S : _} → Utf8Writer T S → Utf8State
utf8_writer_of w = record { decoder = w.decoder; writer = writer_of w.writer }
