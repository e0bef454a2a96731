use Rattle.enc_utf8.proofs.Utf8FaultLemmas.{follow_from}
use Rattle.enc_utf8.proofs.utf8.block_follows.Goals as goal

pub returns : goal.returns
returns c = λ t. follow_from c.args.src.now c.args.at
    (λ k few. c.block_faults.ensures k few (c.are_none.ensures t k few))
