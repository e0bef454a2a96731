use Rattle.enc_encoder.specs.Barring.{barring_rule}
use Rattle.enc_encode.specs.Iso2022Jp.{iso_2022_jp_encoder_rule}
use Rattle.enc_encoder.proofs.RunLemmas.{writes_in_set}
use Rattle.enc_encode.proofs.encoders.iso_2022_jp.ShiftingEncoderCharEncoder.write_run.Goals as goal

pub returns : goal.returns
returns g c = writes_in_set
    (barring_rule (g.B.BarredChars.chars c.args.self.barred) iso_2022_jp_encoder_rule)
    c.args.self.set c.write_mapped.ensures
