-- Written by scripts/make-sources from data/templates: change the text there, and not this file.
use Rattle.std.proofs.Common.{◌∙◌, refl}
use Rattle.enc_index.specs.declared.table.Planes.TheVariants.{Basic}
use Rattle.enc_index.specs.DoubleByteIndexes.{jis0208_entries}
use Rattle.enc_index.specs.Runs.{jis0208_at}
use Rattle.enc_index.proofs.Tables.Jis0208.{table}
use Rattle.enc_index_pointers.specs.declared.pages.jis0208.TheConstants.{JIS0208_PAGE_OF, JIS0208_POINTERS}
use Rattle.enc_index_pointers.specs.Pointers.{any_pointer, no_character, jis0208_pointer}
use Rattle.enc_index_pointers.proofs.PageLemmas.{pointer_in_pages-pointer_of}
use Rattle.enc_index_pointers.proofs.Computing.{tests}
use Rattle.enc_index_pointers.proofs.pointers.jis0208.jis0208.Goals as goal

pub returns-clause-value : goal.returns-clause-value
unfolding tests jis0208_pointer
returns-clause-value c =
    c.pointer_in.ensures.value
    ∙ pointer_in_pages-pointer_of Basic any_pointer no_character 8836 14 15 10 jis0208_entries
    JIS0208_PAGE_OF JIS0208_POINTERS refl jis0208_at table c.args.c
