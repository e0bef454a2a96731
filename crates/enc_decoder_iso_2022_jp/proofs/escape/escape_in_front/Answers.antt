use Rattle.enc_decoder_iso_2022_jp.proofs.Iso2022JpLemmas.{differs}
use Rattle.enc_decoder_iso_2022_jp.proofs.Iso2022JpPieces.{stands_alone}
use Rattle.enc_decoder_iso_2022_jp.proofs.escape.escape_in_front.Goals as goal

pub returns : goal.returns
returns c =
    stands_alone c.args.src.now c.in_ok-intermediate.intermediate _ c.if-src-lt4.false
    c.if-src-ne27.false c.in_ok-intermediate.ensures.some
    (differs _ 0x1B c.if-src-eq27.false) c.of_bytes.ensures.some
