-- Which result of an encoder's call without replacement is the same stop as a result of a call with
-- replacement.
use Rattle.enc_utf8.specs.declared.coder_result.CoderResult.{CoderResult}
use Rattle.enc_utf8.specs.declared.coder_result.CoderResult.TheVariants.{InputEmpty, OutputFull}
use Rattle.enc_input.specs.declared.encoder_result.EncoderResult.{EncoderResult}
use Rattle.enc_input.specs.declared.encoder_result.EncoderResult.TheVariants as encoder

-- the result without replacement
abbrev pub encoder_result_of : CoderResult → EncoderResult
encoder_result_of InputEmpty = encoder.InputEmpty
encoder_result_of OutputFull = encoder.OutputFull
