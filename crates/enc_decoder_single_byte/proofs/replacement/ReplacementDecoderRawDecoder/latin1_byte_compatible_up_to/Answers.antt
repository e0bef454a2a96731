use Rattle.enc_decoder.proofs.Latin1Lemmas.{no_latin1_without_bytes}
use Rattle.enc_decoder_single_byte.proofs.ReplacementLemmas.{replacement_has_no_bytes}
use Rattle.enc_decoder_single_byte.proofs.replacement.ReplacementDecoderRawDecoder.latin1_byte_compatible_up_to.Goals as goal

pub returns : goal.returns
returns c = no_latin1_without_bytes _ replacement_has_no_bytes
