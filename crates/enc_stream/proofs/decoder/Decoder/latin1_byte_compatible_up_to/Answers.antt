use Rattle.enc_codec.specs.Variant.{variant_decoder_state}
use Rattle.enc_stream.proofs.Latin1Lemmas.{shows_latin1, only_converting}
use Rattle.enc_stream.proofs.decoder.Decoder.latin1_byte_compatible_up_to.Goals as goal

pub returns-in-Converting : goal.returns-in-Converting
returns-in-Converting c =
    rw (← c.self.view_is)
    (shows_latin1 _ _ c.self.invariant.0.0 _ c.in-Converting.is _ _
    c.latin1_byte_compatible_up_to.ensures)

pub returns-in_default : goal.returns-in_default
returns-in_default c = rw (← c.self.view_is) (λ m.
    c.in_default.not-Converting
    (only_converting _ _ (variant_decoder_state c.self.inside.parts.codec) m))
