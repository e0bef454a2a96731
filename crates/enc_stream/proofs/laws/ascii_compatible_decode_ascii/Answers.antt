use Rattle.enc_stream.proofs.PropertyLemmas.{shows_ascii_compatible}
use Rattle.enc_stream.proofs.laws.ascii_compatible_decode_ascii.Goals as goal

pub returns : goal.returns
returns c = shows_ascii_compatible _
