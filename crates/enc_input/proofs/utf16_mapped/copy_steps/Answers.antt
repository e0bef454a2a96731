use Rattle.std.proofs.Common.{arith}
use Rattle.enc_utf8.proofs.AsciiLemmas.{copies_on}
use Rattle.enc_input.proofs.utf16_mapped.copy_steps.Goals as goal

pub loop-more-preserved : goal.loop-more-preserved
loop-more-preserved c =
    copies_on c.loop-more.invariant (omega arith) (omega arith) c.copy_thirty_two-more.ensures

pub returns : goal.returns
returns c =
    let steps = copies_on c.loop-more.invariant (omega arith) (omega arith)
    c.copy_thirty_two-more.ensures in
    let sixteen = copies_on steps (omega arith) (omega arith) c.copy_step-at-2.ensures in
    copies_on sixteen (omega arith) (omega arith) c.copy_step.ensures
