use Rattle.std.proofs.Common.{◌≡◌, ◌-◌, ◌^◌, ◌≤◌, false, string_bytes, string_len}
use Rattle.std.specs.Str.{IsUtf8}
use Rattle.enc_reader.specs.HeldText.{text_state_of, AppendsLine}
use Rattle.enc_reader.proofs.decoded_text.DecodedText.append_line.Given as goal

abbrev pub invariant-parts : goal.invariant-parts
invariant-parts g l = record {
  so_far : AppendsLine (g.R.Source.remaining l.fn.self.reader.reader.now)
      (g.R.Source.remaining l.self.reader.reader.now) (text_state_of l.fn.self)
      (text_state_of l.self) (string_bytes l.fn.line) (string_bytes l.line) false;
  start : l.start ≡ string_len l.fn.line;
  grown : string_len l.fn.line ≤ string_len l.line;
  utf_8 : IsUtf8 (text_state_of l.fn.self).held → IsUtf8 (text_state_of l.self).held;
  kept : g.R.Source.has_failed l.self.reader.reader.now
      ≡ g.R.Source.has_failed l.fn.self.reader.reader.now;
  going : l.self.reader.failed ≡ l.fn.self.reader.failed;
  same_reader : l.self.reader.reader.ghost_name ≡ l.fn.self.reader.reader.ghost_name;
}

abbrev pub decreases-parts : goal.decreases-parts
decreases-parts g l = 2 ^ 64 - string_len l.line
