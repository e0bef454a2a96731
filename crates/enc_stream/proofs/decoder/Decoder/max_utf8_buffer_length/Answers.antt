use Rattle.enc_stream.proofs.EnoughLemmas.{room_with_replacement}
use Rattle.enc_stream.proofs.decoder.Decoder.max_utf8_buffer_length.Goals as goal

pub returns-clause-enough : goal.returns-clause-enough
returns-clause-enough c = room_with_replacement _ _ _ c.max_length.ensures.enough
