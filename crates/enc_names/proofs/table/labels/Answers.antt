-- By computation.
use Rattle.std.proofs.Common.{refl}
use Rattle.enc_names.specs.Table.{table}
use Rattle.enc_names.proofs.table.labels.Goals as goal

pub returns : goal.returns
unfolding table
returns c = refl
