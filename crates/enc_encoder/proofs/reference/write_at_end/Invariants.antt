use Rattle.std.proofs.Common.{◌≡◌, ◌-◌, ◌^◌, ◌<◌, ◌≤◌, [], ◌∷◌, ◌++◌, length, drop, decimal}
use Rattle.enc_encoder.proofs.reference.write_at_end.Given as goal

abbrev pub invariant-loop-rest : goal.invariant-loop-rest
invariant-loop-rest l = record {
  low : 3 ≤ l.at;
  high : l.at ≤ 9;
  few : l.rest < 10 ^ (l.at - 2);
  long : length l.bytes ≡ 10;
  written : decimal l.rest ++ drop l.at l.bytes ≡ decimal l.fn.c ++ 0x3B ∷ [];
}

abbrev pub decreases-loop-rest : goal.decreases-loop-rest
decreases-loop-rest l = l.rest
