-- Written by scripts/make-sources from data/templates: change the text there, and not this file.
use Rattle.std.proofs.Common.{◌∙◌, refl}
use Rattle.enc_index.specs.declared.table.Planes.TheVariants.{Basic}
use Rattle.enc_index.specs.DoubleByteIndexes.{gb18030_entries}
use Rattle.enc_index.specs.Runs.{gb18030_at}
use Rattle.enc_index.proofs.Tables.Gb18030.{table}
use Rattle.enc_index_pointers.specs.declared.pages.gb18030.TheConstants.{GB18030_PAGE_OF, GB18030_POINTERS}
use Rattle.enc_index_pointers.specs.Pointers.{any_pointer, no_character, gb18030_pointer}
use Rattle.enc_index_pointers.proofs.PageLemmas.{pointer_in_pages-pointer_of}
use Rattle.enc_index_pointers.proofs.Computing.{tests}
use Rattle.enc_index_pointers.proofs.pointers.gb18030.gb18030.Goals as goal

pub returns-clause-value : goal.returns-clause-value
unfolding tests gb18030_pointer
returns-clause-value c =
    c.pointer_in.ensures.value
    ∙ pointer_in_pages-pointer_of Basic any_pointer no_character 23940 15 15 10 gb18030_entries
    GB18030_PAGE_OF GB18030_POINTERS refl gb18030_at table c.args.c
