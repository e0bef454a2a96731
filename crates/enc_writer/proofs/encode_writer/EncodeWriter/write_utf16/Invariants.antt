use Rattle.std.proofs.Common.{◌≡◌, ◌+◌, length, false}
use Rattle.std.specs.Char.Utf16.{utf16_lossy_chars}
use Rattle.enc_stream.specs.Encoder.{steps_left}
use Rattle.enc_writer.specs.EncodedText.{bytes_from_state}
use Rattle.enc_writer.specs.Writing.{HasEncoded, FitsInBuffer}
use Rattle.enc_writer.specs.Writer.{writer_of}
use Rattle.enc_writer.proofs.encode_writer.EncodeWriter.write_utf16.Given as goal

abbrev pub invariant-calls : goal.invariant-calls
invariant-calls g l = record {
  encoded : HasEncoded (g.W.Sink.contents l.fn.self.writer.now)
      (g.W.Sink.contents l.self.writer.now) (writer_of l.fn.self) (writer_of l.self)
      (utf16_lossy_chars l.text) (utf16_lossy_chars l.rest) false;
  no_push : FitsInBuffer (writer_of l.fn.self) (utf16_lossy_chars l.text)
      (length l.fn.self.output.now)
      → record {
        same : l.self.writer ≡ l.fn.self.writer;
        room : length l.self.output.now ≡ length l.fn.self.output.now;
        sum : l.self.filled + length (bytes_from_state l.self.encoder (utf16_lossy_chars l.rest))
            ≡ l.fn.self.filled
            + length (bytes_from_state l.fn.self.encoder (utf16_lossy_chars l.text));
      };
  going : l.self.failed ≡ false;
  kept : g.W.Sink.has_failed l.self.writer.now ≡ g.W.Sink.has_failed l.fn.self.writer.now;
  same_writer : l.self.writer.ghost_name ≡ l.fn.self.writer.ghost_name;
}

abbrev pub decreases-calls : goal.decreases-calls
decreases-calls g l = steps_left l.self.encoder false (utf16_lossy_chars l.rest)
