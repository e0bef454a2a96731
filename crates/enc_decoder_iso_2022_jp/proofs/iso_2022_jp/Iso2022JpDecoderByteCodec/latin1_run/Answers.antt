use Rattle.std.proofs.Common.{ap}
use Rattle.enc_decoder_iso_2022_jp.specs.Iso2022JpState.{Iso2022JpState}
use Rattle.enc_decoder_iso_2022_jp.proofs.Iso2022JpPieces.{own_pieces}
use Rattle.enc_decoder_iso_2022_jp.proofs.iso_2022_jp.Iso2022JpDecoderByteCodec.latin1_run.Goals as goal

pub returns-clause-latin1 : goal.returns-clause-latin1
returns-clause-latin1 c k d inside =
    let set = ap (λ (s : Iso2022JpState). s.set)
    (c.is_in_ascii.ensures c.if-not-is_in_ascii.false) in
    rw set (own_pieces _ c.iso_2022_jp_ascii_valid_up_to.ensures.has k d inside).1
