use Rattle.enc_stream.proofs.EnoughLemmas.{room_in_utf_16}
use Rattle.enc_stream.proofs.decoder.Decoder.max_utf16_buffer_length.Goals as goal

pub returns-clause-enough : goal.returns-clause-enough
returns-clause-enough c = room_in_utf_16 _ _ _ c.max_length.ensures.enough
