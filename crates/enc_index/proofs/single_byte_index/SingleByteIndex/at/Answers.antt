use Rattle.std.proofs.Common.{◌+◌, ◌*◌, ◌∙◌, ap, get_or, slice_range}
use Rattle.enc_index.specs.declared.table.Planes.TheVariants.{Basic}
use Rattle.enc_index.specs.declared.data.single_byte.TheConstants.{SINGLE_BYTE_TABLE}
use Rattle.enc_index.specs.Index.{entry_character}
use Rattle.enc_index.proofs.SingleByteLemmas.{single_byte_table}
use Rattle.enc_index.proofs.single_byte_index.SingleByteIndex.at.Goals as goal

pub returns : goal.returns
returns c =
    c.character_in.ensures
    ∙ ap (λ k. entry_character Basic
    (get_or (slice_range SINGLE_BYTE_TABLE (k * 128) (k * 128 + 128)) c.args.pointer 0))
    c.number-from.ensures.which
    ∙ single_byte_table c.args.self c.args.pointer
