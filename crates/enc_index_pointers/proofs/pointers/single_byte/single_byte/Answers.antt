use Rattle.std.proofs.Common.{◌+◌, ◌*◌, ◌∙◌, ap, slice_range}
use Rattle.enc_index_pointers.specs.declared.pages.single_byte.TheConstants.{SINGLE_BYTE_PAGE_OF, SINGLE_BYTE_POINTERS}
use Rattle.enc_index_pointers.specs.Pages.{pointer_in_pages}
use Rattle.enc_index_pointers.proofs.SingleBytePages.{single_byte_pages}
use Rattle.enc_index_pointers.proofs.pointers.single_byte.single_byte.Goals as goal

pub returns-clause-value : goal.returns-clause-value
returns-clause-value c =
    c.pointer_in_bytes.ensures.value
    ∙ ap (λ k. pointer_in_pages (slice_range SINGLE_BYTE_PAGE_OF (k * 1024) (k * 1024 + 1024))
    SINGLE_BYTE_POINTERS 128 c.args.c) c.number-from.ensures.which
    ∙ single_byte_pages c.args.index c.args.c
