use Rattle.enc_output.proofs.PiecesLemmas.{ascii_pieces, then_rest}
use Rattle.enc_output.proofs.pieces.put_run.Goals as goal

pub returns-then-at-src : goal.returns-then-at-src
returns-then-at-src g c =
    ascii_pieces (c.has_ascii.ensures c.if-not-has_ascii.false) c.put_ascii-at.ensures

pub returns : goal.returns
returns g c =
    then_rest c.split_at.ensures.back
    (ascii_pieces (c.has_ascii.ensures c.if-not-has_ascii.false) c.put_ascii-at.ensures)
    c.put_rest-2.ensures
