-- Written by scripts/make-sources from data/templates: change the text there, and not this file.
use Rattle.enc_index.proofs.Tables.EucKr.{unit}
use Rattle.enc_index.proofs.indexes.euc_kr.EucKrIndexDoubleByteIndex.unit.Goals as goal

pub returns : goal.returns
returns c = unit c.args.place
