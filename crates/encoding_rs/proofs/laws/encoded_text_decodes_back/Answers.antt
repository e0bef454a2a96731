use Rattle.encoding_rs.proofs.RoundTripLemmas.{decoded, decoded_text, decoded_references}
use Rattle.encoding_rs.proofs.laws.encoded_text_decodes_back.Goals as goal

pub returns-clause-well_formed : goal.returns-clause-well_formed
returns-clause-well_formed c = λ b t s m. (decoded b c.args.encoding t s m).none_malformed

pub returns-clause-same_text : goal.returns-clause-same_text
returns-clause-same_text c = λ b t s m euc shift iso gbk gb18030.
    decoded_text b c.args.encoding t s m euc shift iso gbk gb18030

pub returns-clause-characters : goal.returns-clause-characters
returns-clause-characters c = λ b t s m. (decoded b c.args.encoding t s m).text

pub returns-clause-references : goal.returns-clause-references
returns-clause-references c = λ b t s. decoded_references b c.args.encoding t s
