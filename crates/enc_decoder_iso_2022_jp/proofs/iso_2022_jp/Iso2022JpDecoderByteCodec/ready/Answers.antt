use Rattle.std.proofs.Common.{ap}
use Rattle.enc_decoder_iso_2022_jp.specs.Iso2022JpState.{state_with_held, bytes_of_held, iso_2022_jp_state}
use Rattle.enc_decoder.proofs.EmissionLemmas.{nothing_pending}
use Rattle.enc_decoder_iso_2022_jp.proofs.iso_2022_jp.Iso2022JpDecoderByteCodec.ready.Goals as goal

pub returns-in-None : goal.returns-in-None
returns-in-None c =
    rw (← c.self.view_is)
    (nothing_pending (iso_2022_jp_state (state_with_held c.self.inside.set c.self.inside.held))
    (ap bytes_of_held c.in-None.is))
