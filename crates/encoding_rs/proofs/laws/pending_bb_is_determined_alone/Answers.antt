use Rattle.enc_stream.proofs.PropertyLemmas.{shows_bb}
use Rattle.encoding_rs.proofs.laws.pending_bb_is_determined_alone.Goals as goal

pub returns : goal.returns
returns c = shows_bb _
