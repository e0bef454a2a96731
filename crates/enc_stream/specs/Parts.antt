-- The parts of a decoder, and its state by them.
use Rattle.enc_codec.specs.Variant.{variant_decoder_state, variant_decoder_lengths}
use Rattle.enc_stream.specs.declared.parts.DecoderParts.{DecoderParts}
use Rattle.enc_stream.specs.Decoding.{DecoderState}
use Rattle.enc_stream.specs.LifeCycle.{decoder_state_of, HasCodecOf, HasFormulasOf}

abbrev pub state_of_parts : DecoderParts → DecoderState
state_of_parts p = decoder_state_of p.encoding p.life (variant_decoder_state p.codec)

-- the codec is that of the encoding, and holds what the life cycle says
abbrev pub AreParts : DecoderParts → Type 0
AreParts p = HasCodecOf p.encoding p.life (variant_decoder_state p.codec)
    × HasFormulasOf p.encoding (variant_decoder_lengths p.codec)
