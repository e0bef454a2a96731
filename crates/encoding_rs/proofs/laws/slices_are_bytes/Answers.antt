use Rattle.enc_decoder.proofs.ByteLemmas.{bytes_of_slice}
use Rattle.encoding_rs.proofs.laws.slices_are_bytes.Goals as goal

pub returns : goal.returns
returns c = bytes_of_slice _ c.type_inv.bytes
