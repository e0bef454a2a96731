-- The table of index jis0208 agrees with its runs, and a grid with its table.
-- Written by scripts/make-sources from data/templates: change the text there, and not this file.
use Rattle.std.proofs.Common.{◌≡◌, ℕ, true, refl, get_or}
use Rattle.std.proofs.Common.{◌<◌, Some}
use Rattle.std.specs.Char.{IsScalar}
use Rattle.enc_index.specs.declared.table.Planes.TheVariants.{Basic}
use Rattle.enc_index.specs.declared.list.List.TheVariants.{Jis0208}
use Rattle.enc_index.specs.declared.data.jis0208.TheConstants.{JIS0208_TABLE}
use Rattle.enc_index.specs.declared.data.jis0208_grid.TheConstants.{JIS0208_WORDS, JIS0208_UNITS}
use Rattle.enc_index.specs.DoubleByteIndexes.{jis0208_shape}
use Rattle.enc_index.specs.Grid.{HasNoMore, HasWord, grid_char}
use Rattle.enc_index.specs.Index.{entry_character}
use Rattle.enc_index.specs.Runs.{runs_of, jis0208_at}
use Rattle.enc_index.proofs.Computing.{tests}
use Rattle.enc_index.proofs.GridEntries.{grid_tests, is_word, is_unit, word_found, unit_found}
use Rattle.enc_index.proofs.GridLemmas.{found}
use Rattle.enc_index.proofs.TableLemmas.{entry_character-past}
use Rattle.enc_index.proofs.TableLemmas.{agrees, agrees-true}

table_agrees : agrees (runs_of Jis0208) JIS0208_TABLE ≡ true
unfolding tests
table_agrees = refl

pub table : (p : ℕ) → entry_character Basic (get_or JIS0208_TABLE p 0) ≡ jis0208_at p
table = agrees-true Basic (runs_of Jis0208) JIS0208_TABLE table_agrees

pub has_no_more : HasNoMore jis0208_shape
has_no_more p past = entry_character-past Basic JIS0208_TABLE _ p (table p) past

pub word : (place : ℕ) → 0 < get_or JIS0208_WORDS place 0
    → HasWord (grid_char jis0208_shape place) (get_or JIS0208_WORDS place 0)
unfolding grid_tests
word place some = word_found _ _
    (found is_word jis0208_shape JIS0208_TABLE JIS0208_WORDS table refl place some)

pub unit : (place : ℕ) → 0 < get_or JIS0208_UNITS place 0
    → (grid_char jis0208_shape place ≡ Some (get_or JIS0208_UNITS place 0))
    × IsScalar (get_or JIS0208_UNITS place 0)
unfolding grid_tests
unit place some = unit_found _ _
    (found is_unit jis0208_shape JIS0208_TABLE JIS0208_UNITS table refl place some)
