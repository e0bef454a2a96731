use Rattle.std.proofs.Common.{refl}
use Rattle.enc_output.proofs.GatherLemmas.{gathered_then}
use Rattle.enc_output.proofs.PiecesLemmas.{then_rest}
use Rattle.enc_output.proofs.single_bytes.SingleBytesGather.gather_units.Goals as goal

pub loop-read-preserved : goal.loop-read-preserved
loop-read-preserved g c =
    gathered_then c.loop-read.invariant c.store_units_turn-more.ensures.puts

pub returns-then-more-lt-STEP : goal.returns-then-more-lt-STEP
returns-then-more-lt-STEP g c =
    then_rest refl c.loop-read.invariant.puts c.store_units_turn-more.ensures.puts
