use Rattle.std.proofs.Common.{◌≡◌, chars, length, false}
use denote.Text.{Utf8}
use denote.Shadow.{shadow}
use Rattle.enc_stream.specs.Encoder.{steps_left}
use Rattle.enc_writer.specs.Policies.{policy_bytes, FitsInBufferWith}
use Rattle.enc_writer.specs.PolicySteps.{HasEncodedWith}
use Rattle.enc_writer.specs.Writer.{writer_of}
use Rattle.enc_writer.proofs.encode_writer.EncodeWriter.write_str_with.Given as goal

abbrev pub invariant-calls : goal.invariant-calls
invariant-calls g l = shadow (Utf8 l.rest) × record {
  encoded : HasEncodedWith (policy_bytes l.fn.policy) (g.W.Sink.contents l.fn.self.writer.now)
      (g.W.Sink.contents l.self.writer.now) (writer_of l.fn.self) (writer_of l.self)
      (chars l.text) (chars l.rest);
  no_push : FitsInBufferWith (policy_bytes l.fn.policy) (writer_of l.fn.self) (chars l.text)
      (length l.fn.self.output.now)
      → record {
        same : l.self.writer ≡ l.fn.self.writer;
        room : length l.self.output.now ≡ length l.fn.self.output.now;
      };
  going : l.self.failed ≡ false;
  kept : g.W.Sink.has_failed l.self.writer.now ≡ g.W.Sink.has_failed l.fn.self.writer.now;
  same_writer : l.self.writer.ghost_name ≡ l.fn.self.writer.ghost_name;
}

abbrev pub decreases-calls : goal.decreases-calls
decreases-calls g l = steps_left l.self.encoder false (chars l.rest)
