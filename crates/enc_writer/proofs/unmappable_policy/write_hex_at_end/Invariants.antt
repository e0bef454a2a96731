use Rattle.std.proofs.Common.{◌≡◌, ◌+◌, ◌-◌, ◌^◌, ◌<◌, ◌≤◌, [], ◌∷◌, ◌++◌, length, drop, true}
use Rattle.std.specs.Fmt.{digits, digits_onto}
use Rattle.enc_writer.proofs.unmappable_policy.write_hex_at_end.Given as goal

abbrev pub invariant-loop-rest : goal.invariant-loop-rest
invariant-loop-rest l = record {
  low : 4 ≤ l.at;
  high : l.at ≤ 9;
  few : l.rest < 16 ^ (l.at - 3);
  long : length l.bytes ≡ 10;
  written : digits_onto (l.at + 55) 16 true l.rest (drop l.at l.bytes)
      ≡ digits 16 true l.fn.c ++ 0x3B ∷ [];
}

abbrev pub decreases-loop-rest : goal.decreases-loop-rest
decreases-loop-rest l = l.rest
