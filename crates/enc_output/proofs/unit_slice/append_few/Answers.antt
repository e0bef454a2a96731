use Rattle.enc_output.proofs.PiecesLemmas.{then_one}
use Rattle.enc_output.proofs.unit_slice.append_few.Goals as goal

pub loop-count-preserved : goal.loop-count-preserved
loop-count-preserved g c =
    let found = c.in-Some.ensures in
    let appended = c.append_char.ensures in
    let was_appended = c.if-not-append_char.false in
    then_one _ c.loop-count.invariant found.some found.within found.means appended.scalar
    appended.fits was_appended (appended.written was_appended)
