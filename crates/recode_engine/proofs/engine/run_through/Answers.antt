use Rattle.std.proofs.Common.{rules}
use Rattle.recode_engine.proofs.RunOutcomeLemmas.{IsRecodeRun-source}
use Rattle.recode_engine.proofs.engine.run_through.Goals as goal

pub returns : goal.returns
returns g c =
    IsRecodeRun-source (search rules) (search rules)
    (c.write_decoded.ensures.run c.args.handling c.args.from (search rules))
