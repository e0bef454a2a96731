use Rattle.std.proofs.Common.{◌+◌, arith}
use Rattle.enc_output.proofs.UnitsWrittenLemmas.{written_further, sixteen_ahead}
use Rattle.enc_output.proofs.Utf8UnitsLemmas.{dropped_beyond}
use Rattle.enc_output.proofs.utf8_units.write_front.Goals as goal

pub loop-read-preserved-then-read-lt2 : goal.loop-read-preserved-then-read-lt2
loop-read-preserved-then-read-lt2 c =
    let made = c.store_one-written.ensures in
    let state = c.loop-read in
    let ahead = sixteen_ahead c.args.src.now c.args.len state.read (omega arith) c.requires.utf8
    (omega arith) in
    written_further 1 state.invariant (omega arith) made.len (omega (arith, made.bound, made.len))
    made.stored (dropped_beyond (state.written + 1) _ _ state.dst
    (omega (arith, ahead, state.invariant.count)) made.rest)

pub loop-read-preserved : goal.loop-read-preserved
loop-read-preserved c =
    let made = c.store_sixteen-written.ensures in
    let state = c.loop-read in
    let ahead = sixteen_ahead c.args.src.now c.args.len state.read (omega arith) c.requires.utf8
    (omega arith) in
    written_further 16 state.invariant (omega arith) made.len (omega (arith, made.bound, made.len))
    made.stored (dropped_beyond (state.written + 16) _ _ state.dst
    (omega (arith, ahead, state.invariant.count)) made.rest)
