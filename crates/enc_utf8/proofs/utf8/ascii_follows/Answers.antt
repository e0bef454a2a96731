use Rattle.std.proofs.Common.{arith}
use Rattle.enc_utf8.proofs.Utf8RunLemmas.{ascii_follows}
use Rattle.enc_utf8.proofs.utf8.ascii_follows.Goals as goal

pub returns-then-are_all_ascii : goal.returns-then-are_all_ascii
returns-then-are_all_ascii c =
    λ t. ascii_follows c.args.src.now c.args.at 64 (omega arith) (c.is_between.ensures t)
    (c.are_all_ascii.ensures c.if-are_all_ascii.true)
