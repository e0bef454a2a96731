use Rattle.std.proofs.Common.{◌≡◌, ℕ, ◌<◌, get_or}
use Rattle.std.specs.Prelude.{true}
use Rattle.enc_sniff.specs.Runs.{is_in}
use Rattle.enc_sniff.proofs.scanning.Run.len_in.Given as goal

abbrev pub invariant-loop-offset : goal.invariant-loop-offset
invariant-loop-offset l = (k : ℕ) → k < l.offset → is_in l.self (get_or l.bytes k 0) ≡ true
