use Rattle.enc_output.proofs.PiecesLemmas.{then_rest, ascii_pieces}
use Rattle.enc_output.proofs.Utf8CharsLemmas.{ascii_char}
use Rattle.enc_output.proofs.utf16_slice.Utf16Slice.append_utf8.Goals as goal

pub returns-then-taken-eq0 : goal.returns-then-taken-eq0
returns-then-taken-eq0 c =
    then_rest c.split_at-in-loop-self.ensures.back
    (then_rest c.split_at.ensures.back c.loop-self.invariant c.append_some-taken.ensures)
    c.append_each.ensures

pub loop-self-preserved : goal.loop-self-preserved
loop-self-preserved c =
    then_rest c.split_at-in-loop-self.ensures.back
    (then_rest c.split_at.ensures.back c.loop-self.invariant c.append_some-taken.ensures)
    (ascii_pieces ascii_char c.append_ascii-at.ensures)
