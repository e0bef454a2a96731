use Rattle.enc_stream.proofs.ReferenceLemmas.{lawful_of, once, all_mapped}
use Rattle.encoding_rs.proofs.laws.references_are_mappable.Goals as goal

pub returns-clause-once : goal.returns-clause-once
returns-clause-once c = λ b t. once _ (lawful_of b c.args.encoding) t

pub returns-clause-mappable : goal.returns-clause-mappable
returns-clause-mappable c = λ b t. all_mapped _ (lawful_of b c.args.encoding) t
