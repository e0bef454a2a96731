use Rattle.std.proofs.Common.{arith}
use Rattle.enc_utf8.proofs.AsciiLemmas.{ascii_all, ascii_ends, ascii_front, ascii_one, other_after}
use Rattle.enc_utf8.proofs.ascii.ascii_len.Goals as goal

pub loop-at-preserved : goal.loop-at-preserved
loop-at-preserved c = (omega arith, ascii_one _ _ c.loop-at.invariant.1 (omega arith) (omega arith))

pub returns-then-bytes-at-ge16-clause-ascii : goal.returns-then-bytes-at-ge16-clause-ascii
returns-then-bytes-at-ge16-clause-ascii c =
    let found = c.ascii_in.ensures in
    ascii_front c.ascii_steps-at.result c.ascii_in.result 16 c.args.bytes.now
    c.ascii_steps-at.ensures.ascii found.bound found.ascii

pub returns-then-bytes-at-ge16-clause-ends : goal.returns-then-bytes-at-ge16-clause-ends
returns-then-bytes-at-ge16-clause-ends c inside =
    let found = c.ascii_in.ensures in
    other_after c.ascii_steps-at.result c.ascii_in.result 16 c.args.bytes.now found.bound
    (c.ascii_steps-at.ensures.stops (omega arith)) found.ascii found.ends

pub returns-then-ends_as_ascii-clause-ascii : goal.returns-then-ends_as_ascii-clause-ascii
returns-then-ends_as_ascii-clause-ascii c =
    let bytes = c.args.bytes.now in
    ascii_all bytes (ascii_ends c.ascii_steps-at.result 16 bytes c.ascii_steps-at.ensures.ascii
    (omega arith) (c.ends_as_ascii.ensures.ascii c.if-ends_as_ascii.true))
