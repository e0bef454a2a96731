-- By computation, over the whole table.
use Rattle.std.proofs.Common.{refl}
use Rattle.enc_names.specs.Table.{table}
use Rattle.enc_names.specs.LabelIds.{id_pairs}
use Rattle.enc_names.proofs.labels.encodings.Goals as goal

pub returns-clause-each : goal.returns-clause-each
unfolding id_pairs table
returns-clause-each c = refl

pub returns-clause-count : goal.returns-clause-count
unfolding table
returns-clause-count c = refl
