use Rattle.enc_output.proofs.PiecesLemmas.{then_rest}
use Rattle.enc_output.proofs.utf16_slice.Utf16SliceUnits.put_pieces.Goals as goal

pub returns : goal.returns
returns g c = then_rest c.split_at.ensures.back c.append_run-at.ensures c.write_each.ensures
