use Rattle.enc_encode.proofs.RepertoireLaws.{gb18030}
use Rattle.enc_encode.proofs.laws.Gb18030LawfulRepertoire.laws.Goals as goal

pub returns : goal.returns
returns c = gb18030 c.args.self.is_gbk
