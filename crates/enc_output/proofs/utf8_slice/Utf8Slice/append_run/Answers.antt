use Rattle.enc_output.proofs.PiecesLemmas.{ascii_pieces}
use Rattle.enc_output.proofs.utf8_slice.Utf8Slice.append_run.Goals as goal

pub returns-then-begins_as_ascii : goal.returns-then-begins_as_ascii
returns-then-begins_as_ascii g c =
    ascii_pieces (c.has_ascii.ensures c.if-has_ascii.true) c.append_ascii.ensures
