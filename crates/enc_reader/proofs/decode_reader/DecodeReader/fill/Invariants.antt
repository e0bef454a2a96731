use Rattle.std.proofs.Common.{◌≡◌, length, false}
use Rattle.enc_reader.specs.Reader.{state_of}
use Rattle.enc_reader.specs.Counting.{FillsCounted}
use Rattle.enc_reader.proofs.FillingLemmas.{wanted_len}
use Rattle.enc_reader.proofs.decode_reader.DecodeReader.fill.Given as goal

abbrev pub invariant-pulls : goal.invariant-pulls
invariant-pulls g l = record {
  filled : FillsCounted (g.R.Source.remaining l.fn.self.reader.now)
      (g.R.Source.remaining l.self.reader.now) (state_of l.fn.self) (state_of l.self)
      l.fn.self.given l.self.given;
  going : l.self.failed ≡ false;
  buffer_len : length l.self.input.now ≡ length l.fn.self.input.now;
  had_errors : l.self.had_errors ≡ l.fn.self.had_errors;
  kept : g.R.Source.has_failed l.self.reader.now ≡ g.R.Source.has_failed l.fn.self.reader.now;
  same_reader : l.self.reader.ghost_name ≡ l.fn.self.reader.ghost_name;
}

abbrev pub decreases-pulls : goal.decreases-pulls
decreases-pulls g l = wanted_len (state_of l.self)
