use Rattle.std.proofs.Common.{refl}
use Rattle.std.specs.Char.{encode_utf8}
use Rattle.enc_output.proofs.laws.faults_are_widths.Goals as goal

pub returns-clause-utf_8 : goal.returns-clause-utf_8
unfolding encode_utf8
returns-clause-utf_8 c = refl

pub returns-clause-string : goal.returns-clause-string
unfolding encode_utf8
returns-clause-string c = refl
