-- Why a call that writes references stops, when no more bytes fit.
use Rattle.std.specs.Prelude.{Bool, true, false}
use Rattle.enc_input.specs.declared.encoder_result.EncoderResult.{EncoderResult}
use Rattle.enc_input.specs.declared.encoder_result.EncoderResult.TheVariants.{InputEmpty, OutputFull}

-- by whether nothing is left
abbrev pub result_when_full : Bool → EncoderResult
result_when_full true = InputEmpty
result_when_full false = OutputFull
