use Rattle.std.proofs.Common.{ap, sym, ◌∙◌}
use Rattle.enc_decoder.proofs.Latin1Lemmas.{no_latin1_after_start}
use Rattle.enc_decoder_iso_2022_jp.specs.Iso2022Jp.{set_number, set_of}
use Rattle.enc_decoder_iso_2022_jp.proofs.Iso2022JpLemmas.{set_of_number}
use Rattle.enc_decoder_iso_2022_jp.proofs.Iso2022JpRule.{iso_2022_jp_has_bytes}
use Rattle.enc_decoder_iso_2022_jp.proofs.iso_2022_jp.Iso2022JpDecoderRawDecoder.latin1_byte_compatible_up_to.Goals as goal

pub latin1_up_to-requires : goal.latin1_up_to-requires
latin1_up_to-requires c =
    record { at_start = ap set_number c.in-Ascii.is; has_bytes = iso_2022_jp_has_bytes }

pub returns-in-Ascii : goal.returns-in-Ascii
returns-in-Ascii c = rw (← c.self.view_is) c.latin1_up_to.ensures

pub returns-in_default : goal.returns-in_default
returns-in_default c =
    rw (← c.self.view_is) (no_latin1_after_start _
    (λ e. c.in_default.not-Ascii (sym (set_of_number c.self.inside.set) ∙ ap set_of e)))
