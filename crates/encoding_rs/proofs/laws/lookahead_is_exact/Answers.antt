use Rattle.std.proofs.Common.{refl}
use Rattle.encoding_rs.proofs.LookaheadLemmas.{determined_whole, looks_or_ends, may_look}
use Rattle.encoding_rs.proofs.laws.lookahead_is_exact.Goals as goal

pub returns-clause-determined : goal.returns-clause-determined
returns-clause-determined c = λ bytes s ss rest k a w l.
    determined_whole c.args.handling c.args.encoding bytes s ss rest k w l a

pub returns-clause-some : goal.returns-clause-some
returns-clause-some c = λ set b z. looks_or_ends c.args.encoding set b z

pub returns-clause-kinds : goal.returns-clause-kinds
returns-clause-kinds c = λ set b z n a l. may_look c.args.encoding set b z n a l _ refl
