-- The state of an `EncodeWriter`.
use Rattle.std.specs.Prelude.{take}
use Rattle.enc_writer.specs.declared.encode_writer.EncodeWriter.{EncodeWriter}
use Rattle.enc_writer.specs.Writing.{WriterState}

-- its encoder, the bytes at the start of its buffer, and whether a character was unmappable
abbrev pub writer_of : {T : Type 0} {S : _} → EncodeWriter T S → WriterState
writer_of w = record {
  encoder = w.encoder;
  held = take w.filled w.output.now;
  had_unmappables = w.had_unmappables;
}
