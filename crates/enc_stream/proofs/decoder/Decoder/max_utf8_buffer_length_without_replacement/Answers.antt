use Rattle.enc_stream.proofs.EnoughLemmas.{room_to_report}
use Rattle.enc_stream.proofs.decoder.Decoder.max_utf8_buffer_length_without_replacement.Goals as goal

pub returns-clause-enough : goal.returns-clause-enough
returns-clause-enough c = room_to_report _ _ _ c.max_length.ensures.enough
