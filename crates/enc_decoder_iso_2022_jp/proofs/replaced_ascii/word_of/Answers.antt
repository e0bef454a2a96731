use Rattle.enc_decoder_iso_2022_jp.proofs.Iso2022JpReplaced.{replaced_word}
use Rattle.enc_decoder_iso_2022_jp.proofs.replaced_ascii.word_of.Goals as goal

pub returns : goal.returns
returns c some = replaced_word c.args.byte c.ranges.byte.fits some
