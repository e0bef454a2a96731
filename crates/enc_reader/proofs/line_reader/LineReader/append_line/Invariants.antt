use Rattle.std.proofs.Common.{◌≡◌, ◌+◌, ◌-◌, ◌^◌, string_len, vec_len}
use Rattle.enc_reader.specs.Lines.{line_state_of}
use Rattle.enc_reader.proofs.PlacedLineLemmas.{HasTakenPart}
use Rattle.enc_reader.proofs.line_reader.LineReader.append_line.Given as goal

abbrev pub invariant-parts : goal.invariant-parts
invariant-parts g l = record {
  so_far : HasTakenPart l.fn.self.policy (g.R.Source.remaining l.fn.self.reader.reader.now)
      (g.R.Source.remaining l.self.reader.reader.now) (line_state_of l.fn.self)
      (line_state_of l.self) l.fn.line l.line l.some;
  policy : l.self.policy ≡ l.fn.self.policy;
  kept : g.R.Source.has_failed l.self.reader.reader.now
      ≡ g.R.Source.has_failed l.fn.self.reader.reader.now;
  going : l.self.reader.failed ≡ l.fn.self.reader.failed;
  same_reader : l.self.reader.reader.ghost_name ≡ l.fn.self.reader.reader.ghost_name;
}

abbrev pub decreases-parts : goal.decreases-parts
decreases-parts g l = 2 ^ 65 - (string_len l.line.text + vec_len l.line.malformed)
