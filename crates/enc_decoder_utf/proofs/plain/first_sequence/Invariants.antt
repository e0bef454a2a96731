use Rattle.std.proofs.Common.{◌-◌, length}
use Rattle.enc_decoder.specs.Pending.{bytes_of_pending}
use Rattle.enc_decoder_utf.proofs.PlainLemmas.{Walks}
use Rattle.enc_decoder_utf.proofs.plain.first_sequence.Given as goal

abbrev pub invariant-loop-at : goal.invariant-loop-at
invariant-loop-at l = Walks l.bytes (bytes_of_pending l.front) l.at

-- the bytes that are not read
abbrev pub decreases-loop-at : goal.decreases-loop-at
decreases-loop-at l = length l.bytes - l.at
