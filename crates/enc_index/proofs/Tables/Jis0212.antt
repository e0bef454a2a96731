-- The table of index jis0212 agrees with its runs, and a grid with its table.
-- Written by scripts/make-sources from data/templates: change the text there, and not this file.
use Rattle.std.proofs.Common.{◌≡◌, ℕ, true, refl, get_or}
use Rattle.enc_index.specs.declared.table.Planes.TheVariants.{Basic}
use Rattle.enc_index.specs.declared.list.List.TheVariants.{Jis0212}
use Rattle.enc_index.specs.declared.data.jis0212.TheConstants.{JIS0212_TABLE}
use Rattle.enc_index.specs.Index.{entry_character}
use Rattle.enc_index.specs.Runs.{runs_of, jis0212_at}
use Rattle.enc_index.proofs.Computing.{tests}
use Rattle.enc_index.proofs.TableLemmas.{agrees, agrees-true}

table_agrees : agrees (runs_of Jis0212) JIS0212_TABLE ≡ true
unfolding tests
table_agrees = refl

pub table : (p : ℕ) → entry_character Basic (get_or JIS0212_TABLE p 0) ≡ jis0212_at p
table = agrees-true Basic (runs_of Jis0212) JIS0212_TABLE table_agrees
