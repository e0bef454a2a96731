use Rattle.std.proofs.Common.{arith}
use Rattle.enc_index_pointers.proofs.SingleBytePages.{ascii_byte, pointer_byte, no_last_byte}
use Rattle.enc_index_pointers.proofs.pointers.single_byte_of_unit.single_byte_of_unit.Goals as goal

pub returns-clause-ascii : goal.returns-clause-ascii
returns-clause-ascii c low some =
    ascii_byte c.args.index _ _ c.args.unit c.number-from.ensures.which c.byte_in.ensures low some

pub returns-clause-others : goal.returns-clause-others
returns-clause-others c high some =
    pointer_byte c.args.index _ _ c.args.unit c.number-from.ensures.which c.byte_in.ensures high
    some
    (omega arith)

pub returns-clause-last : goal.returns-clause-last
returns-clause-last c last =
    no_last_byte c.args.index _ _ c.args.unit c.number-from.ensures.which c.byte_in.ensures last
