-- The table of index Big5 agrees with its runs, and a grid with its table.
-- Written by scripts/make-sources from data/templates: change the text there, and not this file.
use Rattle.std.proofs.Common.{◌≡◌, ℕ, true, refl, get_or}
use Rattle.std.proofs.Common.{◌<◌, Some}
use Rattle.std.specs.Char.{IsScalar}
use Rattle.enc_index.specs.declared.table.Planes.TheVariants.{All}
use Rattle.enc_index.specs.declared.list.List.TheVariants.{Big5}
use Rattle.enc_index.specs.declared.data.big5.TheConstants.{BIG5_TABLE}
use Rattle.enc_index.specs.declared.data.big5_grid.TheConstants.{BIG5_WORDS, BIG5_UNITS}
use Rattle.enc_index.specs.DoubleByteIndexes.{big5_shape}
use Rattle.enc_index.specs.Grid.{HasNoMore, HasWord, grid_char}
use Rattle.enc_index.specs.Index.{entry_character}
use Rattle.enc_index.specs.Runs.{runs_of, big5_at}
use Rattle.enc_index.proofs.Computing.{tests}
use Rattle.enc_index.proofs.GridEntries.{grid_tests, is_word, is_unit, word_found, unit_found}
use Rattle.enc_index.proofs.GridLemmas.{found}
use Rattle.enc_index.proofs.TableLemmas.{entry_character-past}
use Rattle.enc_index.proofs.TableLemmas.{agrees, agrees-true}

table_agrees : agrees (runs_of Big5) BIG5_TABLE ≡ true
unfolding tests
table_agrees = refl

pub table : (p : ℕ) → entry_character All (get_or BIG5_TABLE p 0) ≡ big5_at p
table = agrees-true All (runs_of Big5) BIG5_TABLE table_agrees

pub has_no_more : HasNoMore big5_shape
has_no_more p past = entry_character-past All BIG5_TABLE _ p (table p) past

pub word : (place : ℕ) → 0 < get_or BIG5_WORDS place 0
    → HasWord (grid_char big5_shape place) (get_or BIG5_WORDS place 0)
unfolding grid_tests
word place some = word_found _ _
    (found is_word big5_shape BIG5_TABLE BIG5_WORDS table refl place some)

pub unit : (place : ℕ) → 0 < get_or BIG5_UNITS place 0
    → (grid_char big5_shape place ≡ Some (get_or BIG5_UNITS place 0))
    × IsScalar (get_or BIG5_UNITS place 0)
unfolding grid_tests
unit place some = unit_found _ _
    (found is_unit big5_shape BIG5_TABLE BIG5_UNITS table refl place some)
