use Rattle.std.proofs.Common.{arith, refl, rules}
use Rattle.enc_output.proofs.PiecesLemmas.{then_rest, same_then, puts_gathered}
use Rattle.enc_output.proofs.utf16_slice.Utf16Slice.append_gathered.Goals as goal

pub returns-then-read-eq0 : goal.returns-then-read-eq0
returns-then-read-eq0 g c =
    then_rest c.split_at.ensures.back c.loop-gathered.invariant c.append_ascii_of-at.ensures

pub returns-then-not-append_units : goal.returns-then-not-append_units
returns-then-not-append_units g c =
    same_then (c.append_units.ensures.unchanged c.if-not-append_units.true)
    (then_rest c.split_at.ensures.back c.loop-gathered.invariant c.append_ascii_of-at.ensures)

pub loop-gathered-preserved : goal.loop-gathered-preserved
loop-gathered-preserved g c =
    let appended = c.append_units.ensures in
    then_rest c.split_at-in-loop-gathered.ensures.back
    (then_rest c.split_at.ensures.back c.loop-gathered.invariant c.append_ascii_of-at.ensures)
    (puts_gathered (appended.written c.if-not-append_units.false)
    (omega (arith, appended.fits c.if-not-append_units.false)) c.gather_units-read.ensures
    (rw c.new-gathered.ensures.len refl) (search rules))
