use Rattle.enc_output.proofs.PiecesLemmas.{then_rest, ascii_pieces}
use Rattle.enc_output.proofs.Utf8CharsLemmas.{ascii_char}
use Rattle.enc_output.proofs.utf8_slice.Utf8Slice.append_utf8.Goals as goal

pub returns-then-taken-lt-SHORT : goal.returns-then-taken-lt-SHORT
returns-then-taken-lt-SHORT c =
    then_rest c.split_at.ensures.back c.loop-at.invariant c.append_part-taken.ensures

pub loop-at-preserved : goal.loop-at-preserved
loop-at-preserved c =
    then_rest c.split_at-in-loop-at.ensures.back
    (then_rest c.split_at.ensures.back c.loop-at.invariant c.append_part-taken.ensures)
    (ascii_pieces ascii_char c.append_ascii-at.ensures)
