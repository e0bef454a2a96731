use Rattle.enc_utf8.proofs.Utf8FaultLemmas.{along, start_here}
use Rattle.std.proofs.Common.{refl}
use Rattle.enc_utf8.proofs.utf8.start_follows.Goals as goal

pub returns : goal.returns
returns c = λ t k few. start_here c.args.src.now k few
    (along (c.after_three_zeros.ensures k few) (c.after_two_zeros.ensures k few)
    (c.after_one_zero-first.ensures k few) refl
    (c.faults.ensures k few (c.are_none.ensures t k few)))
