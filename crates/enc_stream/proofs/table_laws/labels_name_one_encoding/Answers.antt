-- By computation, over the whole table.
use Rattle.std.proofs.Common.{refl}
use Rattle.enc_names.specs.LabelIds.{id_pairs}
use Rattle.enc_stream.specs.Labels.{label_pairs}
use Rattle.enc_stream.proofs.table_laws.labels_name_one_encoding.Goals as goal

pub returns-clause-count : goal.returns-clause-count
unfolding label_pairs id_pairs
returns-clause-count c = refl

pub returns-clause-each : goal.returns-clause-each
unfolding label_pairs id_pairs
returns-clause-each c = refl
