use Rattle.enc_decoder_iso_2022_jp.proofs.Iso2022JpReplaced.{means_unit}
use Rattle.enc_decoder_iso_2022_jp.proofs.replaced_ascii.ReplacedAsciiBytePieces.unit.Goals as goal

pub returns : goal.returns
returns c some =
    means_unit c.args.byte _ (c.unit_of.ensures.is some) (c.unit_of.ensures.scalar some)
