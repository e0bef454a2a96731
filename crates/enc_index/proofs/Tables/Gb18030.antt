-- The table of index gb18030 agrees with its runs, and a grid with its table.
-- Written by scripts/make-sources from data/templates: change the text there, and not this file.
use Rattle.std.proofs.Common.{◌≡◌, ℕ, true, refl, get_or}
use Rattle.std.proofs.Common.{◌<◌, Some}
use Rattle.std.specs.Char.{IsScalar}
use Rattle.enc_index.specs.declared.table.Planes.TheVariants.{Basic}
use Rattle.enc_index.specs.declared.list.List.TheVariants.{Gb18030}
use Rattle.enc_index.specs.declared.data.gb18030.TheConstants.{GB18030_TABLE}
use Rattle.enc_index.specs.declared.data.gb18030_grid.TheConstants.{GB18030_WORDS, GB18030_UNITS}
use Rattle.enc_index.specs.DoubleByteIndexes.{gb18030_shape}
use Rattle.enc_index.specs.Grid.{HasNoMore, HasWord, grid_char}
use Rattle.enc_index.specs.Index.{entry_character}
use Rattle.enc_index.specs.Runs.{runs_of, gb18030_at}
use Rattle.enc_index.proofs.Computing.{tests}
use Rattle.enc_index.proofs.GridEntries.{grid_tests, is_word, is_unit, word_found, unit_found}
use Rattle.enc_index.proofs.GridLemmas.{found}
use Rattle.enc_index.proofs.TableLemmas.{entry_character-past}
use Rattle.enc_index.proofs.TableLemmas.{agrees, agrees-true}

table_agrees : agrees (runs_of Gb18030) GB18030_TABLE ≡ true
unfolding tests
table_agrees = refl

pub table : (p : ℕ) → entry_character Basic (get_or GB18030_TABLE p 0) ≡ gb18030_at p
table = agrees-true Basic (runs_of Gb18030) GB18030_TABLE table_agrees

pub has_no_more : HasNoMore gb18030_shape
has_no_more p past = entry_character-past Basic GB18030_TABLE _ p (table p) past

pub word : (place : ℕ) → 0 < get_or GB18030_WORDS place 0
    → HasWord (grid_char gb18030_shape place) (get_or GB18030_WORDS place 0)
unfolding grid_tests
word place some = word_found _ _
    (found is_word gb18030_shape GB18030_TABLE GB18030_WORDS table refl place some)

pub unit : (place : ℕ) → 0 < get_or GB18030_UNITS place 0
    → (grid_char gb18030_shape place ≡ Some (get_or GB18030_UNITS place 0))
    × IsScalar (get_or GB18030_UNITS place 0)
unfolding grid_tests
unit place some = unit_found _ _
    (found is_unit gb18030_shape GB18030_TABLE GB18030_UNITS table refl place some)
