use Rattle.std.proofs.Common.{◌-◌, length}
use Rattle.enc_decoder.specs.Taking.{TakesSequences}
use Rattle.enc_decoder.proofs.replaced.replace_some.Given as goal

abbrev pub invariant-loop-at : goal.invariant-loop-at
invariant-loop-at g l =
    TakesSequences g.U.Units.units_of (g.C.ByteCodec.state l.codec) (g.C.ByteCodec.state l.codec)
    l.src l.at (g.U.Units.output l.initial.out) (g.U.Units.output l.out)

abbrev pub decreases-loop-at : goal.decreases-loop-at
decreases-loop-at g l = length l.src - l.at
