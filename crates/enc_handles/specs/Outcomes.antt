-- The results of calls by numbers, and what the numbers stand for.
use Rattle.std.specs.Prelude.{ℕ, zero, suc, ◌-◌, ◌/◌, ◌%◌, ◌^◌, ◌==◌, Option, Some, None, false}
use Rattle.std.specs.Prelude.{option_map, if◌then◌else◌}
use Rattle.enc_utf8.specs.declared.coder_result.CoderResult.{CoderResult}
use Rattle.enc_utf8.specs.declared.coder_result.CoderResult.TheVariants as coder
use Rattle.enc_output.specs.declared.decoder_result.DecoderResult.{DecoderResult}
use Rattle.enc_output.specs.declared.decoder_result.DecoderResult.TheVariants as decoder
use Rattle.enc_input.specs.declared.encoder_result.EncoderResult.{EncoderResult}
use Rattle.enc_input.specs.declared.encoder_result.EncoderResult.TheVariants as encoder
use Rattle.enc_stream.specs.declared.encoding.Encoding.{Encoding}
use Rattle.enc_stream.specs.Numbers.{encoding_of_number}
use Rattle.enc_handles.specs.declared.outcome.Outcome.{Outcome}

-- why a call with replacement stopped, by its number
abbrev pub coder_result_by : ℕ → CoderResult
coder_result_by zero = coder.InputEmpty
coder_result_by (suc _) = coder.OutputFull

-- Why a call of a decoder without replacement stopped, by its number and its report. That of a
-- malformed sequence is 256 times its length, and the number of bytes read after it.
abbrev pub decoder_result_by : ℕ → ℕ → DecoderResult
decoder_result_by zero report = decoder.InputEmpty
decoder_result_by (suc zero) report = decoder.OutputFull
decoder_result_by (suc (suc _)) report = decoder.Malformed (report / 256) (report % 256)

-- Why a call of an encoder without replacement stopped, by its number and its report. That of an
-- unmappable character is the character.
abbrev pub encoder_result_by : ℕ → ℕ → EncoderResult
encoder_result_by zero report = encoder.InputEmpty
encoder_result_by (suc zero) report = encoder.OutputFull
encoder_result_by (suc (suc _)) report = encoder.Unmappable report

-- the outcome of a call that has done nothing, by the number of its reason
abbrev pub refusal : ℕ → Outcome
refusal why = record { stop = why; report = 0; read = 0; written = 0; replaced = false }

-- the number of a length, or of none: the greatest of 64 bits
abbrev pub number_of_length : Option ℕ → ℕ
number_of_length None = 2 ^ 64 - 1
number_of_length (Some n) = n

-- the length with this number
abbrev pub length_by : ℕ → Option ℕ
length_by n = if n == 2 ^ 64 - 1 then None else Some n

-- the encoding and the length of a byte order mark, by their numbers
abbrev pub mark_by : ℕ → ℕ → Option (Encoding × ℕ)
mark_by encoding len = option_map (λ e. (e, len)) (encoding_of_number encoding)
