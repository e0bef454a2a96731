use Rattle.std.proofs.Common.{sym, subst, rules}
use Rattle.enc_decoder.specs.declared.text_lengths.TextLengths.{TextLengths}
use Rattle.enc_decoder.specs.Need.{AreEnoughForCodec}
use Rattle.enc_codec.specs.Variant.{variant_decoder_state}
use Rattle.enc_stream.proofs.decoder.Decoder.max_length.Goals as goal
use Rattle.enc_stream.proofs.EnoughLemmas.{room_is_enough}

pub returns-clause-enough : goal.returns-clause-enough
returns-clause-enough c =
    let decoder = c.self.inside.parts in
    let kept = c.self.invariant in
    let are_enough =
    subst (λ (f : TextLengths). AreEnoughForCodec f (variant_decoder_state decoder.codec))
    (sym kept.1)
    c.text_lengths-formulas.ensures.enough in
    rw (← c.self.view_is)
    (room_is_enough c.args.query decoder.encoding decoder.life (variant_decoder_state decoder.codec)
    kept.0.0 kept.0.1 are_enough c.args.byte_length _ (search rules))
