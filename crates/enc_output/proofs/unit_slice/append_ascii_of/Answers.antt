use Rattle.enc_output.proofs.PiecesLemmas.{ascii_pieces}
use Rattle.enc_output.proofs.unit_slice.append_ascii_of.Goals as goal

pub returns : goal.returns
returns g c = ascii_pieces (c.has_ascii.ensures c.if-not-has_ascii.false) c.append_ascii.ensures
