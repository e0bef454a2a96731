use Rattle.std.proofs.Common.{◌≡◌, ◌+◌, ◌≤◌, chars, drop, length, false}
use denote.Text.{Utf8}
use denote.Shadow.{shadow}
use Rattle.enc_input.specs.declared.encoder_result.EncoderResult.TheVariants.{OutputFull}
use Rattle.enc_stream.specs.Encoder.{steps_left}
use Rattle.enc_writer.specs.EncodedText.{bytes_from_state}
use Rattle.enc_writer.specs.Writing.{FitsInBuffer}
use Rattle.enc_writer.specs.ReportedSteps.{ReportsSteps}
use Rattle.enc_writer.specs.Writer.{writer_of}
use Rattle.enc_writer.proofs.encode_writer.EncodeWriter.write_str_without_replacement.Given as goal

abbrev pub invariant-calls : goal.invariant-calls
invariant-calls g l = shadow (Utf8 l.rest) × record {
  reports : ReportsSteps (g.W.Sink.contents l.fn.self.writer.now)
      (g.W.Sink.contents l.self.writer.now) (writer_of l.fn.self) (writer_of l.self)
      (chars l.text) (chars l.rest) OutputFull;
  within : l.taken ≤ length l.text;
  rest_is : l.rest ≡ drop l.taken l.text;
  no_push : FitsInBuffer (writer_of l.fn.self) (chars l.text) (length l.fn.self.output.now)
      → record {
        same : l.self.writer ≡ l.fn.self.writer;
        room : length l.self.output.now ≡ length l.fn.self.output.now;
        sum : l.self.filled + length (bytes_from_state l.self.encoder (chars l.rest))
            ≤ l.fn.self.filled + length (bytes_from_state l.fn.self.encoder (chars l.text));
      };
  going : l.self.failed ≡ false;
  had : l.self.had_unmappables ≡ l.fn.self.had_unmappables;
  kept : g.W.Sink.has_failed l.self.writer.now ≡ g.W.Sink.has_failed l.fn.self.writer.now;
  same_writer : l.self.writer.ghost_name ≡ l.fn.self.writer.ghost_name;
}

abbrev pub decreases-calls : goal.decreases-calls
decreases-calls g l = steps_left l.self.encoder false (chars l.rest)
