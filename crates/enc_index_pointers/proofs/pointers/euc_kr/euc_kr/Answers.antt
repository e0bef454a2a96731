-- Written by scripts/make-sources from data/templates: change the text there, and not this file.
use Rattle.std.proofs.Common.{◌∙◌, refl}
use Rattle.enc_index.specs.declared.table.Planes.TheVariants.{Basic}
use Rattle.enc_index.specs.DoubleByteIndexes.{euc_kr_entries}
use Rattle.enc_index.specs.Runs.{euc_kr_at}
use Rattle.enc_index.proofs.Tables.EucKr.{table}
use Rattle.enc_index_pointers.specs.declared.pages.euc_kr.TheConstants.{EUC_KR_PAGE_OF, EUC_KR_POINTERS}
use Rattle.enc_index_pointers.specs.Pointers.{any_pointer, no_character, euc_kr_pointer}
use Rattle.enc_index_pointers.proofs.PageLemmas.{pointer_in_pages-pointer_of}
use Rattle.enc_index_pointers.proofs.Computing.{tests}
use Rattle.enc_index_pointers.proofs.pointers.euc_kr.euc_kr.Goals as goal

pub returns-clause-value : goal.returns-clause-value
unfolding tests euc_kr_pointer
returns-clause-value c =
    c.pointer_in.ensures.value
    ∙ pointer_in_pages-pointer_of Basic any_pointer no_character 23940 15 16 10 euc_kr_entries
    EUC_KR_PAGE_OF EUC_KR_POINTERS refl euc_kr_at table c.args.c
