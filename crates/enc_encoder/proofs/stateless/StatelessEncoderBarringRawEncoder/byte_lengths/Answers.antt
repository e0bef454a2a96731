use Rattle.enc_encoder.proofs.BarringLemmas.{except_keeps}
use Rattle.enc_encoder.proofs.EnoughLemmas.{stateless_enough}
use Rattle.enc_encoder.proofs.stateless.StatelessEncoderBarringRawEncoder.byte_lengths.Goals as goal

pub returns-clause-enough : goal.returns-clause-enough
returns-clause-enough g c = stateless_enough _ _ (except_keeps _ _ _ c.laws.ensures.lengths)
