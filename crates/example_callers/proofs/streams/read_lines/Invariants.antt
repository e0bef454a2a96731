use Rattle.std.proofs.Common.{◌≡◌, [], string_bytes}
use Rattle.enc_reader.specs.Lines.{line_state_of}
use Rattle.example_callers.proofs.PlacedLines.{HasLines}
use Rattle.example_callers.proofs.streams.read_lines.Given as goal

abbrev pub invariant-loop : goal.invariant-loop
invariant-loop l = record {
  so_far : HasLines l.fn.encoding l.fn.bytes l.lines.reader.reader.now.inner.now l.fn.policy
      (line_state_of l.lines) l.initial.line l.line;
  no_text : string_bytes l.initial.line.text ≡ [];
  none_malformed : l.initial.line.malformed.items ≡ [];
  policy : l.lines.policy ≡ l.fn.policy;
}
