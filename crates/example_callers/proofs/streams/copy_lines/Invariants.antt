use Rattle.std.proofs.Common.{◌≡◌, ◌++◌, string_bytes}
use Rattle.enc_stream.specs.declared.bom.BomHandling.TheVariants.{Sniff}
use Rattle.enc_stream.specs.Decoding.{whole_utf_8}
use Rattle.enc_reader.specs.HeldText.{text_state_of, owed_text}
use Rattle.example_callers.proofs.streams.copy_lines.Given as goal

abbrev pub invariant-loop : goal.invariant-loop
invariant-loop l = record {
  copied : whole_utf_8 Sniff l.fn.encoding l.fn.bytes
      ≡ string_bytes l.copy ++ owed_text (text_state_of l.text) l.text.reader.reader.now.inner.now;
}
