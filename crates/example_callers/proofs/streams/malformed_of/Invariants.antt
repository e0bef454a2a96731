use Rattle.enc_reader.specs.Reader.{state_of}
use Rattle.example_callers.proofs.SliceLemmas.{HasFound}
use Rattle.example_callers.proofs.streams.malformed_of.Given as goal

abbrev pub invariant-loop : goal.invariant-loop
invariant-loop l = record {
  found : HasFound l.fn.encoding l.fn.bytes l.reader.reader.now.inner.now (state_of l.reader)
      l.reader.given l.found.items;
}
