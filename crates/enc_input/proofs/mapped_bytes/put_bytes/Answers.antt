use Rattle.std.proofs.Common.{arith}
use Rattle.enc_input.proofs.MappingLemmas.{put_first, put_first_two}
use Rattle.enc_input.proofs.mapped_bytes.put_bytes.Goals as goal

pub returns-then-bytes-eq1-clause-put : goal.returns-then-bytes-eq1-clause-put
returns-then-bytes-eq1-clause-put c =
    put_first c.args.at c.args.dst.now c.args.bytes.bytes c.args.bytes.len
    c.if-bytes-eq1.true (omega (arith, c.args.bytes.fits)) (omega arith)

pub returns-then-bytes-eq2-clause-put : goal.returns-then-bytes-eq2-clause-put
returns-then-bytes-eq2-clause-put c =
    put_first_two c.args.at c.args.dst.now c.args.bytes.bytes c.args.bytes.len
    c.if-bytes-eq2.true (omega arith) (omega arith)
