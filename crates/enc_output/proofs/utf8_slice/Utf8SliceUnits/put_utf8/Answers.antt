use Rattle.enc_output.proofs.PiecesLemmas.{then_rest, ascii_pieces}
use Rattle.enc_output.proofs.Utf8CharsLemmas.{ascii_char}
use Rattle.enc_output.proofs.utf8_slice.Utf8SliceUnits.put_utf8.Goals as goal

pub returns-then-char_len-eq0 : goal.returns-then-char_len-eq0
returns-then-char_len-eq0 c = ascii_pieces ascii_char c.append_ascii-at.ensures

pub returns : goal.returns
returns c = then_rest c.split_at.ensures.back (ascii_pieces ascii_char c.append_ascii-at.ensures)
    c.append_utf8.ensures
