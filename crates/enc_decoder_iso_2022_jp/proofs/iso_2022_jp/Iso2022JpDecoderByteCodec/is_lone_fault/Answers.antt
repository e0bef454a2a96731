use Rattle.std.proofs.Common.{◌≤◌, ap, sym, ◌∙◌, arith, subst}
use Rattle.std.proofs.lemmas.Bool.Decides.{nat_tests}
use Rattle.enc_decoder.specs.declared.byte_codec.HandlerResult.TheVariants.{Emit}
use Rattle.enc_decoder.specs.CodecLaw.{HandlesByte, lone_fault}
use Rattle.enc_decoder_iso_2022_jp.specs.Iso2022JpState.{state_with_held, iso_2022_jp_state}
use Rattle.enc_decoder_iso_2022_jp.proofs.Iso2022JpComes.{shows_high}
use Rattle.enc_decoder_iso_2022_jp.proofs.iso_2022_jp.Iso2022JpDecoderByteCodec.is_lone_fault.Goals as goal

pub returns-in-None : goal.returns-in-None
returns-in-None c high =
    let least : 0x80 ≤ c.args.byte = grind (arith, nat_tests) in
    subst (λ d. HandlesByte iso_2022_jp_state d c.args.byte (Emit (lone_fault d)))
    (ap (λ h. state_with_held c.self.inside.set h) (sym c.in-None.is) ∙ c.self.view_is)
    (shows_high c.self.inside.set c.args.byte least)
