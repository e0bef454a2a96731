use Rattle.std.proofs.Common.{arith, drop, take}
use Rattle.std.proofs.lemmas.List.{length-take-le}
use Rattle.enc_utf8.proofs.LengthLemmas.{lengths}
use Rattle.enc_utf8.proofs.PutLemmas.{put_lanes}
use Rattle.enc_input.proofs.Utf8BytesLemmas.{ascii_written}
use Rattle.enc_input.proofs.utf8_bytes.put_turn.Goals as goal

pub returns-then-are_all_ascii-clause-writes : goal.returns-then-are_all_ascii-clause-writes
returns-then-are_all_ascii-clause-writes g c =
    let text = drop c.args.from c.args.src.now in
    ascii_written (g.M.Mapping.means c.args.mapping) c.requires.keeps c.requires.utf8 (omega arith)
    (omega (arith, lengths))
    (c.are_all_ascii.ensures c.if-are_all_ascii.true) (omega arith)
    (put_lanes 64 c.args.at c.args.dst.now (take 64 text) (omega arith)
    (length-take-le 64 text (omega (arith, lengths)))).onto
