use Rattle.std.proofs.Common.{refl, None}
use Rattle.enc_reader.proofs.TakenItemLemmas.{none_held}
use Rattle.enc_reader.proofs.line_reader.LineReader.new.Goals as goal

pub returns-clause-none_held : goal.returns-clause-none_held
returns-clause-none_held g c = none_held c.args.text.now 0 None refl refl
