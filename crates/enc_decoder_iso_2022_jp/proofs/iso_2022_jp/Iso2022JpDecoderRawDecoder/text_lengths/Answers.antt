use Rattle.std.proofs.Common.{refl}
use Rattle.enc_decoder_iso_2022_jp.proofs.Iso2022JpEnough.{iso_2022_jp_enough}
use Rattle.enc_decoder_iso_2022_jp.proofs.iso_2022_jp.Iso2022JpDecoderRawDecoder.text_lengths.Goals as goal

pub returns-clause-enough : goal.returns-clause-enough
returns-clause-enough c = iso_2022_jp_enough _ refl
