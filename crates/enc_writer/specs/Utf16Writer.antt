-- The state of a `Utf16Writer`.
use Rattle.std.specs.Prelude.{take}
use Rattle.enc_writer.specs.declared.utf16_writer.Utf16Writer.{Utf16Writer}
use Rattle.enc_writer.specs.Utf16Writing.{Utf16WriterState}

-- its byte order, and the bytes at the start of its buffer
abbrev pub utf16_writer_of : {T : Type 0} {S : _} → Utf16Writer T S → Utf16WriterState
utf16_writer_of w = record { order = w.order; held = take w.filled w.output.now }
