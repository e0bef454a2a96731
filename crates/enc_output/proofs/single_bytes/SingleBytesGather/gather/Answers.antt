use Rattle.std.proofs.Common.{arith, refl}
use Rattle.enc_output.proofs.GatherLemmas.{gathered_none, gathered_then}
use Rattle.enc_output.proofs.PiecesLemmas.{then_rest}
use Rattle.enc_output.proofs.single_bytes.SingleBytesGather.gather.Goals as goal

pub loop-out-init : goal.loop-out-init
loop-out-init g c = gathered_none (omega (arith, c.capacity.ensures, c.capacity-most.ensures))

pub loop-out-preserved : goal.loop-out-preserved
loop-out-preserved g c = gathered_then c.loop-out.invariant c.store_turn-more.ensures.puts

pub returns-then-not-is_whole : goal.returns-then-not-is_whole
returns-then-not-is_whole g c =
    then_rest refl c.loop-out.invariant.puts c.store_turn-more.ensures.puts

pub loop-pieces-preserved : goal.loop-pieces-preserved
loop-pieces-preserved g c = gathered_then c.loop-pieces.invariant c.store_bytes-more.ensures.puts

pub returns-then-more-lt-STEP : goal.returns-then-more-lt-STEP
returns-then-more-lt-STEP g c =
    then_rest refl c.loop-pieces.invariant.puts c.store_bytes-more.ensures.puts
