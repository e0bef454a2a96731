use Rattle.std.proofs.Common.{◌≡◌, drop}
use Rattle.enc_encode.specs.Gb18030.{row_bytes}
use Rattle.enc_encode.proofs.encoders.gb18030.row_bytes.Given as goal

-- none of the rows before is that of the character
abbrev pub invariant-loop-i : goal.invariant-loop-i
invariant-loop-i l = row_bytes l.rows l.c ≡ row_bytes (drop l.i l.rows) l.c
