-- Written by scripts/make-sources from data/templates: change the text there, and not this file.
use Rattle.enc_index.proofs.Tables.Jis0208.{unit}
use Rattle.enc_index.proofs.indexes.jis0208.Jis0208IndexDoubleByteIndex.unit.Goals as goal

pub returns : goal.returns
returns c = unit c.args.place
