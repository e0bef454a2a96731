use Rattle.enc_encoder.specs.declared.character_set.CharacterSet.TheVariants.{Ascii}
use Rattle.enc_encoder.specs.Stateless.{stateless_rule}
use Rattle.enc_encoder.proofs.RunLemmas.{writes_in_set}
use Rattle.enc_encoder.proofs.stateless.StatelessEncoderCharEncoder.write_run.Goals as goal

pub returns : goal.returns
returns g c = writes_in_set (stateless_rule (g.R.Repertoire.bytes_for c.args.self.repertoire)) Ascii
    c.write_run.ensures
