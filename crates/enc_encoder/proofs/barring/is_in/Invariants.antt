use Rattle.std.proofs.Common.{◌≡◌, drop}
use Rattle.enc_encoder.specs.Barring.{contains_char}
use Rattle.enc_encoder.proofs.barring.is_in.Given as goal

-- none of those before is the character
abbrev pub invariant-loop-i : goal.invariant-loop-i
invariant-loop-i l = contains_char l.barred l.c ≡ contains_char (drop l.i l.barred) l.c
