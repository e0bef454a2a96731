use Rattle.enc_decoder_iso_2022_jp.proofs.Iso2022JpPieces.{takes_in_ascii}
use Rattle.enc_decoder_iso_2022_jp.proofs.iso_2022_jp.Iso2022JpDecoderByteCodec.replace_run.Goals as goal

pub returns : goal.returns
returns g c =
    takes_in_ascii _ (c.is_in_ascii.ensures c.if-not-is_in_ascii.false) c.split_at.ensures.front
    c.put_run.ensures
