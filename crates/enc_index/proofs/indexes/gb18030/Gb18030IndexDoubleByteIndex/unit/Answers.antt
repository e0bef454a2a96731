-- Written by scripts/make-sources from data/templates: change the text there, and not this file.
use Rattle.enc_index.proofs.Tables.Gb18030.{unit}
use Rattle.enc_index.proofs.indexes.gb18030.Gb18030IndexDoubleByteIndex.unit.Goals as goal

pub returns : goal.returns
returns c = unit c.args.place
