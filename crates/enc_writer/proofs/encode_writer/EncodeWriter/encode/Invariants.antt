use Rattle.std.proofs.Common.{◌≡◌, ◌+◌, chars, length, false}
use denote.Text.{Utf8}
use denote.Shadow.{shadow}
use Rattle.enc_stream.specs.Encoder.{steps_left}
use Rattle.enc_writer.specs.EncodedText.{bytes_from_state}
use Rattle.enc_writer.specs.Writing.{HasEncoded, FitsInBuffer}
use Rattle.enc_writer.specs.Writer.{writer_of}
use Rattle.enc_writer.proofs.encode_writer.EncodeWriter.encode.Given as goal

abbrev pub invariant-calls : goal.invariant-calls
invariant-calls g l = shadow (Utf8 l.rest) × record {
  encoded : HasEncoded (g.W.Sink.contents l.fn.self.writer.now)
      (g.W.Sink.contents l.self.writer.now) (writer_of l.fn.self) (writer_of l.self) (chars l.text)
      (chars l.rest) l.last;
  no_push : FitsInBuffer (writer_of l.fn.self) (chars l.text) (length l.fn.self.output.now)
      → record {
        same : l.self.writer ≡ l.fn.self.writer;
        room : length l.self.output.now ≡ length l.fn.self.output.now;
        sum : l.self.filled + length (bytes_from_state l.self.encoder (chars l.rest))
            ≡ l.fn.self.filled + length (bytes_from_state l.fn.self.encoder (chars l.text));
      };
  going : l.self.failed ≡ false;
  kept : g.W.Sink.has_failed l.self.writer.now ≡ g.W.Sink.has_failed l.fn.self.writer.now;
  same_writer : l.self.writer.ghost_name ≡ l.fn.self.writer.ghost_name;
}

abbrev pub decreases-calls : goal.decreases-calls
decreases-calls g l = steps_left l.self.encoder l.last (chars l.rest)
