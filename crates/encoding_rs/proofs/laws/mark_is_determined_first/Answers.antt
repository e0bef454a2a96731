-- For any marks that are bytes, none of them a prefix of another.
use Rattle.std.proofs.Common.{refl}
use Rattle.enc_stream.specs.Bom.{marks_looked_for}
use Rattle.enc_stream.proofs.MarkFirstLemmas as settled
use Rattle.encoding_rs.proofs.laws.mark_is_determined_first.Goals as goal

pub returns-clause-decided : goal.returns-clause-decided
returns-clause-decided c =
    settled.mark_is_decided (marks_looked_for c.args.handling c.args.encoding)

pub returns-clause-first : goal.returns-clause-first
returns-clause-first c = settled.undetermined c.args.handling c.args.encoding

pub returns-clause-then : goal.returns-clause-then
returns-clause-then c = λ x ss n. settled.by_rule c.args.handling c.args.encoding x ss _ refl n
