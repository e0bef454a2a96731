-- Which result of a decoder's call without replacement is the same stop as a result of a call with
-- replacement.
use Rattle.enc_utf8.specs.declared.coder_result.CoderResult.{CoderResult}
use Rattle.enc_utf8.specs.declared.coder_result.CoderResult.TheVariants.{InputEmpty, OutputFull}
use Rattle.enc_output.specs.declared.decoder_result.DecoderResult.{DecoderResult}
use Rattle.enc_output.specs.declared.decoder_result.DecoderResult.TheVariants as decoder

-- the result without replacement
abbrev pub decoder_result_of : CoderResult → DecoderResult
decoder_result_of InputEmpty = decoder.InputEmpty
decoder_result_of OutputFull = decoder.OutputFull
