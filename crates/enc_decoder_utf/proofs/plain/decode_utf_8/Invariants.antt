use Rattle.std.proofs.Common.{◌-◌, length}
use Rattle.enc_decoder_utf.proofs.PlainLemmas.{Decoded}
use Rattle.enc_decoder_utf.proofs.plain.decode_utf_8.Given as goal

abbrev pub invariant-loop-read : goal.invariant-loop-read
invariant-loop-read l = Decoded l.bytes l.read l.text.items l.had_errors

-- the bytes that are not decoded
abbrev pub decreases-loop-read : goal.decreases-loop-read
decreases-loop-read l = length l.bytes - l.read
