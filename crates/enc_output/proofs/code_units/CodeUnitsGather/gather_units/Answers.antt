use Rattle.std.proofs.Common.{arith, refl}
use Rattle.enc_output.proofs.CodeUnitsLemmas.{of_rest}
use Rattle.enc_output.proofs.GatherLemmas.{gathered_then}
use Rattle.enc_output.proofs.PiecesLemmas.{then_rest, one_char}
use Rattle.enc_output.proofs.code_units.CodeUnitsGather.gather_units.Goals as goal

pub turns-preserved-then-count-ge8 : goal.turns-preserved-then-count-ge8
turns-preserved-then-count-ge8 g c =
    gathered_then c.turns.invariant
    (of_rest c.turns.read c.args.src.now (omega arith) c.store_long_units-count.ensures.puts)

pub turns-preserved : goal.turns-preserved
turns-preserved g c =
    let put = c.store_char.ensures in
    let found = c.in-Some.ensures in
    gathered_then (gathered_then c.turns.invariant
    (of_rest c.turns.read c.args.src.now (omega arith) c.store_long_units-count.ensures.puts))
    (one_char _ found.some found.within put.scalar found.means put.fits put.written)

pub returns-in_default : goal.returns-in_default
returns-in_default g c =
    then_rest refl c.turns.invariant.puts
    (of_rest c.turns.read c.args.src.now (omega arith) c.store_long_units-count.ensures.puts)
