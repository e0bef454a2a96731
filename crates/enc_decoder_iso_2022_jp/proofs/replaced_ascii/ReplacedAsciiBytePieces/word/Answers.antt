use Rattle.enc_decoder_iso_2022_jp.proofs.Iso2022JpReplaced.{means_word}
use Rattle.enc_decoder_iso_2022_jp.proofs.replaced_ascii.ReplacedAsciiBytePieces.word.Goals as goal

pub returns : goal.returns
returns c some =
    means_word c.args.byte _ (c.word_of.ensures some)
