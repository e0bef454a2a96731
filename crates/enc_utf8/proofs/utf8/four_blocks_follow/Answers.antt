use Rattle.enc_utf8.proofs.Utf8FaultLemmas.{four_follow}
use Rattle.enc_utf8.proofs.utf8.four_blocks_follow.Goals as goal

pub returns : goal.returns
returns c = λ t. four_follow c.args.src.now c.args.at
    (λ k few. c.block_faults.ensures k few (c.both_faults-front.ensures k few
    (c.both_faults.ensures k few (c.are_none.ensures t k few)).0).0)
    (λ k few. c.block_faults-2.ensures k few (c.both_faults-front.ensures k few
    (c.both_faults.ensures k few (c.are_none.ensures t k few)).0).1)
    (λ k few. c.block_faults-3.ensures k few (c.both_faults-back.ensures k few
    (c.both_faults.ensures k few (c.are_none.ensures t k few)).1).0)
    (λ k few. c.block_faults-4.ensures k few (c.both_faults-back.ensures k few
    (c.both_faults.ensures k few (c.are_none.ensures t k few)).1).1)
