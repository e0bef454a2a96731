use Rattle.enc_encode.proofs.Iso2022JpLemmas.{iso_2022_jp_is_lawful}
use Rattle.enc_encoder.proofs.BarringLemmas.{barring_is_lawful}
use Rattle.enc_encode.proofs.encoders.iso_2022_jp.Iso2022JpEncoderRawEncoder.write_first.Goals as goal

pub returns-then-not-is_empty-clause-lawful : goal.returns-then-not-is_empty-clause-lawful
returns-then-not-is_empty-clause-lawful g c = barring_is_lawful _ _ iso_2022_jp_is_lawful

pub returns-clause-lawful : goal.returns-clause-lawful
returns-clause-lawful g c = barring_is_lawful _ _ iso_2022_jp_is_lawful
