use Rattle.std.proofs.Common.{None, ◌∙◌, ap, sym}
use Rattle.enc_decoder_iso_2022_jp.specs.Iso2022JpState.{Iso2022JpState, state_with_held}
use Rattle.enc_decoder_iso_2022_jp.proofs.Iso2022JpPieces.{skips_escape}
use Rattle.enc_decoder_iso_2022_jp.proofs.iso_2022_jp.Iso2022JpDecoderByteCodec.take_end.Goals as goal

pub returns : goal.returns
returns c =
    skips_escape c.args.self c.with_held.result c.in_ok-escape.escape
    (ap (λ (s : Iso2022JpState). s.held) (sym c.self.view_is) ∙ c.in-None.is)
    (c.with_held.ensures ∙ ap (λ s. state_with_held s None) c.set.ensures)
    c.in_ok-escape.ensures
