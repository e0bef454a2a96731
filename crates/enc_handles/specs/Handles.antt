-- A loan of the value at the pointer of a handle, which ends with the value that the loan leaves.
use Rattle.std.specs.Borrow.{Lends, MutBor, Fml}
use Rattle.enc_stream.specs.Decoding.{DecoderState}
use Rattle.enc_stream.specs.Encoder.{EncoderState}
use Rattle.enc_stream.specs.contracts.decoder.Decoder.{the_row as decoder_row}
use Rattle.enc_stream.specs.contracts.encoder.Encoder.{the_row as encoder_row}
use Rattle.enc_handles.specs.declared.decoder_at.DecoderAt.{DecoderAt}
use Rattle.enc_handles.specs.contracts.decoder_at.DecoderAt.{the_row as decoder_at_row}
use Rattle.enc_handles.specs.declared.encoder_at.EncoderAt.{EncoderAt}
use Rattle.enc_handles.specs.contracts.encoder_at.EncoderAt.{the_row as encoder_at_row}

-- h with the decoder d
abbrev pub with_decoder : DecoderAt → DecoderState → DecoderAt
with_decoder h d = record h { value = d }

-- h with the encoder e
abbrev pub with_encoder : EncoderAt → EncoderState → EncoderAt
with_encoder h e = record h { value = e }

-- h ends with the decoder that r leaves
abbrev pub lends_decoder : MutBor DecoderAt → MutBor DecoderState → Fml
lends_decoder h r = Lends decoder_at_row decoder_row h r (with_decoder h.now)

-- h ends with the encoder that r leaves
abbrev pub lends_encoder : MutBor EncoderAt → MutBor EncoderState → Fml
lends_encoder h r = Lends encoder_at_row encoder_row h r (with_encoder h.now)
