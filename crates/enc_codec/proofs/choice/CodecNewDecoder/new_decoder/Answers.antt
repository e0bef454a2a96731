use Rattle.std.proofs.Common.{ap}
use Rattle.enc_decoder_utf.proofs.Utf8Rule.{utf_8_by_prefixes}
use Rattle.enc_codec.specs.Codecs.{initial_state}
use Rattle.enc_codec.proofs.choice.CodecNewDecoder.new_decoder.Goals as goal

pub returns-in-Utf8-clause-state : goal.returns-in-Utf8-clause-state
returns-in-Utf8-clause-state c =
    rw (c.in-Utf8.is, c.new.ensures) (ap initial_state utf_8_by_prefixes)
