use Rattle.enc_output.proofs.GatherLemmas.{gathered_then}
use Rattle.enc_output.proofs.PiecesLemmas.{one_char}
use Rattle.enc_output.proofs.gather.OneByOneGather.gather.Goals as goal

pub loop-pieces-preserved-then-own-gt0 : goal.loop-pieces-preserved-then-own-gt0
loop-pieces-preserved-then-own-gt0 g c =
    gathered_then c.loop-pieces.invariant
    (rw c.split_at.ensures.back at c.store_own-own.ensures.puts)

pub loop-pieces-preserved : goal.loop-pieces-preserved
loop-pieces-preserved g c =
    let stored = c.store_char.ensures in
    let found = c.in-Some.ensures in
    gathered_then
    (gathered_then c.loop-pieces.invariant
    (rw c.split_at.ensures.back at c.store_own-own.ensures.puts))
    (one_char _ found.some found.within stored.scalar found.means stored.fits stored.written)
