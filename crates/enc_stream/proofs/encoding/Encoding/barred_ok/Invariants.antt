use Rattle.std.proofs.Common.{◌≡◌, drop}
use Rattle.enc_encoder.specs.Barring.{are_beyond_ascii}
use Rattle.enc_stream.proofs.encoding.Encoding.barred_ok.Given as goal

-- those before are U+0080 or above
abbrev pub invariant-loop-i : goal.invariant-loop-i
invariant-loop-i l = are_beyond_ascii l.barred ≡ are_beyond_ascii (drop l.i l.barred)
