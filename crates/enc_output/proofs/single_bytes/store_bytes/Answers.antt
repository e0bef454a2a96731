use Rattle.std.proofs.Common.{arith, refl, sym, drop}
use Rattle.enc_output.proofs.PiecesLemmas.{then_rest, puts_wider}
use Rattle.enc_output.proofs.GatherLemmas.{byte_front}
use Rattle.enc_output.proofs.single_bytes.store_bytes.Goals as goal

pub loop-read-preserved : goal.loop-read-preserved
loop-read-preserved g c =
    let invariant = c.loop-read.invariant in
    let stored = c.store_byte.ensures in
    let front = byte_front c.args.from c.loop-read.read c.args.src.now (omega arith) in (
      omega arith,
      omega (arith, invariant.1, stored.bound),
      then_rest {src = drop c.args.from c.args.src.now} refl invariant.2
          (puts_wider 1 (sym front) (stored.stored c.if-not-store_byte.false)),
    )
