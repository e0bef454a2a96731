use Rattle.std.proofs.Common.{arith}
use Rattle.enc_utf8.proofs.LengthLemmas.{lengths}
use Rattle.enc_output.proofs.CodeUnitsLemmas.{of_rest}
use Rattle.enc_output.proofs.GatherLemmas.{gathered_none, gathered_then}
use Rattle.enc_output.proofs.PiecesLemmas.{one_char}
use Rattle.enc_output.proofs.code_units.CodeUnitsGather.gather.Goals as goal

pub turns-init : goal.turns-init
turns-init g c = gathered_none (omega arith)

pub turns-preserved-then-count-eq16 : goal.turns-preserved-then-count-eq16
turns-preserved-then-count-eq16 g c =
    gathered_then c.turns.invariant
    (of_rest c.turns.read c.args.src.now (omega arith) c.store_long_units-count.ensures.puts)

pub singles-init : goal.singles-init
singles-init g c =
    let stored = c.store_long_units-count.ensures in (
      omega arith,
      omega (arith, stored.few),
      omega (arith, lengths, stored.bound, c.turns.invariant.ends),
      gathered_then c.turns.invariant
          (of_rest c.turns.read c.args.src.now (omega arith) stored.puts),
    )

pub singles-preserved : goal.singles-preserved
singles-preserved g c =
    let put = c.store_char.ensures in
    let found = c.in-Some.ensures in
    let next = gathered_then c.singles.invariant.3
    (one_char _ found.some found.within put.scalar found.means put.fits put.written) in (
      omega (arith, c.singles.invariant.0),
      omega arith,
      omega (arith, next.ends),
      next,
    )

pub turns-preserved : goal.turns-preserved
turns-preserved g c =
    let put = c.store_char.ensures in
    let found = c.in-Some.ensures in
    gathered_then c.singles.invariant.3
    (one_char _ found.some found.within put.scalar found.means put.fits put.written)
