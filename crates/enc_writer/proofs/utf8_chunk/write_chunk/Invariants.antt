use Rattle.std.proofs.Common.{◌≡◌, ◌+◌, length, false}
use Rattle.enc_stream.specs.Decoding.{has_finished}
use Rattle.enc_writer.specs.Writer.{writer_of}
use Rattle.enc_writer.specs.Utf8Writing.{utf8_state}
use Rattle.enc_writer.proofs.Utf8WritingLemmas.{HasReadUtf8}
use Rattle.enc_writer.proofs.utf8_chunk.write_chunk.Given as goal

abbrev pub invariant-calls : goal.invariant-calls
invariant-calls g l = record {
  reads : HasReadUtf8 (g.W.Sink.contents l.fn.writer.writer.now)
      (g.W.Sink.contents l.writer.writer.now) (utf8_state l.fn.decoder (writer_of l.fn.writer))
      (utf8_state l.decoder (writer_of l.writer)) l.bytes l.rest l.last;
  unfinished : has_finished l.decoder ≡ false;
  same_writer : l.writer.writer.ghost_name ≡ l.fn.writer.writer.ghost_name;
}

abbrev pub decreases-calls : goal.decreases-calls
decreases-calls g l = length l.decoder.pending + length l.rest
