use Rattle.enc_decoder_utf.proofs.Utf8Rule.{utf_8_by_prefixes}
use Rattle.enc_decoder_utf.proofs.Utf8Enough.{utf_8_enough}
use Rattle.enc_decoder_utf.proofs.utf_8.Utf8DecoderPrefixCodec.lengths.Goals as goal

pub returns-clause-enough : goal.returns-clause-enough
returns-clause-enough c = utf_8_enough _ utf_8_by_prefixes
