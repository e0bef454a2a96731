use Rattle.std.proofs.Common.{rules}
use Rattle.recode_engine.proofs.RunOutcomeLemmas.{IsRecodeRun-sink}
use Rattle.recode_engine.proofs.engine.write_decoded.Goals as goal

pub returns-clause-run : goal.returns-clause-run
returns-clause-run g c = λ handling from fresh_reader.
    IsRecodeRun-sink (search rules) (search rules)
    (c.write_all-outcome.ensures.run handling from c.args.to fresh_reader (search rules))
