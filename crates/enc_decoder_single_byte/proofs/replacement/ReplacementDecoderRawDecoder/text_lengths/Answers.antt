use Rattle.enc_decoder_single_byte.proofs.EnoughLemmas.{replacement_enough}
use Rattle.enc_decoder_single_byte.proofs.replacement.ReplacementDecoderRawDecoder.text_lengths.Goals as goal

pub returns-clause-enough : goal.returns-clause-enough
returns-clause-enough c = replacement_enough _
