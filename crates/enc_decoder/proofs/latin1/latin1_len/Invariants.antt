use Rattle.std.proofs.Common.{length, ◌-◌}
use Rattle.enc_decoder.proofs.Latin1Lemmas.{Latin1Front}
use Rattle.enc_decoder.proofs.latin1.latin1_len.Given as goal

abbrev pub invariant-loop-at : goal.invariant-loop-at
invariant-loop-at g l =
    Latin1Front g.C.ByteCodec.state (g.C.ByteCodec.state l.fn.codec) l.bytes l.at l.state

abbrev pub decreases-loop-at : goal.decreases-loop-at
decreases-loop-at g l = length l.bytes - l.at
