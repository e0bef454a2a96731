-- Written by scripts/make-sources from data/templates: change the text there, and not this file.
use Rattle.std.proofs.Common.{◌∙◌, refl}
use Rattle.enc_index.specs.declared.table.Planes.TheVariants.{All}
use Rattle.enc_index.specs.DoubleByteIndexes.{big5_entries}
use Rattle.enc_index.specs.Runs.{big5_at}
use Rattle.enc_index.proofs.Tables.Big5.{table}
use Rattle.enc_index_pointers.specs.declared.pages.big5.TheConstants.{BIG5_PAGE_OF, BIG5_POINTERS}
use Rattle.enc_index_pointers.specs.Pointers.{is_big5_pointer, is_last_in_big5, big5_pointer}
use Rattle.enc_index_pointers.proofs.PageLemmas.{pointer_in_pages-pointer_of}
use Rattle.enc_index_pointers.proofs.Computing.{tests}
use Rattle.enc_index_pointers.proofs.pointers.big5.big5.Goals as goal

pub returns-clause-value : goal.returns-clause-value
unfolding tests big5_pointer
returns-clause-value c =
    c.pointer_in.ensures.value
    ∙ pointer_in_pages-pointer_of All is_big5_pointer is_last_in_big5 19782 15 16 12 big5_entries
    BIG5_PAGE_OF BIG5_POINTERS refl big5_at table c.args.c
