use Rattle.std.proofs.Common.{◌≡◌, ◌≤◌, length, drop}
use Rattle.enc_names.proofs.search.compare.Given as goal

-- The bytes from a place on are the same.
abbrev pub invariant-loop-at : goal.invariant-loop-at
invariant-loop-at l = record {
  within : l.at ≤ length l.label;
  same : drop l.at l.label ≡ drop l.at l.word;
}

abbrev pub decreases-loop-at : goal.decreases-loop-at
decreases-loop-at l = l.at
