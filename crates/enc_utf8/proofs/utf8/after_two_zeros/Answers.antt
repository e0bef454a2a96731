use Rattle.std.proofs.Common.{arith}
use Rattle.enc_utf8.proofs.Utf8FaultLemmas.{shifted}
use Rattle.enc_utf8.proofs.utf8.after_two_zeros.Goals as goal

pub returns : goal.returns
returns c k h = shifted 14 c.args.bytes (omega arith) c.fits-bytes.0 k h
