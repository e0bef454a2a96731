use Rattle.std.proofs.Common.{◌≡◌, ◌+◌, ◌≤◌, false, length}
use Rattle.enc_stream.specs.declared.bom.BomHandling.TheVariants.{Sniff}
use Rattle.encoding_rs.specs.Decoding.{has_finished, remaining_sequences, whole_sequences}
use Rattle.example_callers.specs.Count.{malformed_count}
use Rattle.example_callers.proofs.count_malformed.Given as goal

abbrev pub invariant-pieces : goal.invariant-pieces
invariant-pieces l = record {
  going : has_finished l.decoder ≡ false;
  room : length l.piece ≡ 64;
  left : l.count + length l.decoder.pending + length l.unread ≤ length l.fn.bytes;
  counted : malformed_count (whole_sequences Sniff l.fn.encoding l.fn.bytes)
      ≡ l.count + malformed_count (remaining_sequences l.decoder l.unread);
}

abbrev pub decreases-pieces : goal.decreases-pieces
decreases-pieces l = length l.decoder.pending + length l.unread
