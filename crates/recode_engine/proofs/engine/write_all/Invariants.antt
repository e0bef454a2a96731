use Rattle.std.proofs.Common.{◌≡◌, false, length}
use Rattle.enc_reader.specs.Reader.{state_of as reader_state}
use Rattle.enc_reader.specs.Reading.{fresh_reader}
use Rattle.enc_reader.proofs.ReadingLemmas.{reader_at}
use Rattle.enc_stream.specs.declared.bom.BomHandling.{BomHandling}
use Rattle.enc_stream.specs.declared.encoding.Encoding.{Encoding}
use Rattle.enc_writer.specs.Writer.{writer_of as writer_state}
use Rattle.enc_writer.specs.Writing.{fresh_writer}
use Rattle.recode_engine.proofs.RunLemmas.{RunState, HasRun}
use Rattle.recode_engine.proofs.engine.write_all.Given as goal

abbrev pub invariant-reads : goal.invariant-reads
invariant-reads g l =
    let now : RunState = record {
      source = reader_at (g.R.Source.remaining l.decoding.reader.now) (reader_state l.decoding);
      taken = g.W.Sink.contents l.encoding.writer.now;
      writer = writer_state l.encoding;
      malformed = l.decoding.had_errors;
      made = l.counter;
    } in
    record {
      ran : (handling : BomHandling) (from to : Encoding)
          → reader_state l.fn.decoding ≡ fresh_reader handling from
          → writer_state l.fn.encoding ≡ fresh_writer to → HasRun (record {
            handling = handling;
            from = from;
            to = to;
            remaining = g.R.Source.remaining l.fn.decoding.reader.now;
            taken = g.W.Sink.contents l.fn.encoding.writer.now;
          }) now;
      text_room : length l.text ≡ 65536;
      reading : l.decoding.failed ≡ false;
      writing : l.encoding.failed ≡ false;
      reader_kept : g.R.Source.has_failed l.decoding.reader.now
          ≡ g.R.Source.has_failed l.fn.decoding.reader.now;
      writer_kept : g.W.Sink.has_failed l.encoding.writer.now
          ≡ g.W.Sink.has_failed l.fn.encoding.writer.now;
      same_reader : l.decoding.reader.ghost_name ≡ l.fn.decoding.reader.ghost_name;
      same_writer : l.encoding.writer.ghost_name ≡ l.fn.encoding.writer.ghost_name;
    }
