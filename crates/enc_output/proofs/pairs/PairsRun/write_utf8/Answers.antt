use Rattle.enc_output.proofs.PiecesLemmas.{then_rest}
use Rattle.enc_output.proofs.pairs.PairsRun.write_utf8.Goals as goal

pub returns : goal.returns
returns g c = then_rest c.split_at.ensures.back c.append_few-at.ensures c.write_by_eight.ensures
