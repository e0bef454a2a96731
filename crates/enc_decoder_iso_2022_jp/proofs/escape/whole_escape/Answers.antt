use Rattle.enc_decoder_iso_2022_jp.proofs.Iso2022JpPieces.{is_whole}
use Rattle.enc_decoder_iso_2022_jp.proofs.escape.whole_escape.Goals as goal

pub returns : goal.returns
returns c =
    is_whole c.args.src.now c.in_ok-intermediate.intermediate _ c.if-src-ne3.false
    c.if-src-ne27.false c.in_ok-intermediate.ensures.some c.of_bytes.ensures.some
