use Rattle.std.proofs.Common.{◌≡◌, ◌-◌, ◌^◌, ◌≤◌, ◌++◌, length, take, drop, true, false, None, IsUtf8}
use Rattle.enc_reader.specs.Reader.{state_of}
use Rattle.enc_reader.specs.Reading.{FillsRoom}
use Rattle.enc_reader.specs.Reporting.{HasShortLens}
use Rattle.enc_reader.proofs.ReadingLemmas.{reader_at}
use Rattle.enc_reader.proofs.ReportingLemmas.{HasReported}
use Rattle.enc_reader.proofs.decode_reader.DecodeReader.read_reporting.Given as goal

abbrev pub invariant-pulls : goal.invariant-pulls
invariant-pulls g l = record {
  reported : HasReported
      (reader_at (g.R.Source.remaining l.fn.self.reader.now) (state_of l.fn.self))
      (reader_at (g.R.Source.remaining l.self.reader.now) (state_of l.self)) l.fn.self.given
      l.self.given (take l.turn.written l.dst) l.turn.malformed
      (l.self.recent ++ take l.self.at l.self.input.now) l.turn.waits l.pulls;
  lens : HasShortLens l.turn.malformed;
  full : l.turn.malformed ≡ None
      → FillsRoom (length l.fn.dst) l.turn.written (state_of l.self);
  within : l.turn.written ≤ length l.dst;
  text : IsUtf8 (take l.turn.written l.dst);
  rest : drop l.turn.written l.dst ≡ drop l.turn.written l.fn.dst;
  none : l.turn.waits ≡ true → l.turn.written ≡ 0;
  unreported : l.turn.waits ≡ true → l.turn.malformed ≡ None;
  room : length l.dst ≡ length l.fn.dst;
  buffer_len : length l.self.input.now ≡ length l.fn.self.input.now;
  going : l.self.failed ≡ false;
  had_errors : l.self.had_errors ≡ l.fn.self.had_errors;
  kept : g.R.Source.has_failed l.self.reader.now ≡ g.R.Source.has_failed l.fn.self.reader.now;
  same_reader : l.self.reader.ghost_name ≡ l.fn.self.reader.ghost_name;
}

abbrev pub decreases-pulls : goal.decreases-pulls
decreases-pulls g l = (2 ^ 64 - 1) - l.pulls
