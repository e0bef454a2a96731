use Rattle.std.proofs.Common.{◌≡◌, ℕ, List, ◌++◌, chars, length, false}
use denote.Text.{Utf8}
use denote.Shadow.{shadow}
use Rattle.enc_writer.specs.Utf16Writing.{HasWrittenUtf16}
use Rattle.enc_writer.specs.Utf16Writer.{utf16_writer_of}
use Rattle.enc_writer.proofs.utf16_writer.Utf16Writer.write_str.Given as goal

abbrev pub invariant-pieces : goal.invariant-pieces
invariant-pieces g l = shadow (Utf8 l.rest) × record {
  front : List ℕ;
  parts : chars l.text ≡ front ++ chars l.rest;
  written : HasWrittenUtf16 (g.W.Sink.contents l.fn.self.writer.now)
      (g.W.Sink.contents l.self.writer.now) (utf16_writer_of l.fn.self) (utf16_writer_of l.self)
      front;
  going : l.self.failed ≡ false;
  kept : g.W.Sink.has_failed l.self.writer.now ≡ g.W.Sink.has_failed l.fn.self.writer.now;
  same_writer : l.self.writer.ghost_name ≡ l.fn.self.writer.ghost_name;
}

abbrev pub decreases-pieces : goal.decreases-pieces
decreases-pieces g l = length l.rest
