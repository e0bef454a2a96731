use Rattle.enc_stream.proofs.PropertyLemmas.{shows_single_byte}
use Rattle.enc_stream.proofs.laws.single_byte_decode_bytes.Goals as goal

pub returns : goal.returns
returns c = shows_single_byte _
