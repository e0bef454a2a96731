use Rattle.std.proofs.Common.{◌++◌, ◌∙◌, ◌/◌, ap, arith, take}
use Rattle.enc_utf8.proofs.PutLemmas.{stored_front}
use Rattle.enc_utf8.proofs.utf8_form.store_word.Goals as goal

pub returns-clause-stored : goal.returns-clause-stored
returns-clause-stored c =
    let copied = c.copy_from_slice.ensures in
    let byte_count = c.args.word / 0x100_0000 in
    stored_front c.args.at byte_count c.args.buffer.now c.copy_from_slice.new.self _ (omega arith)
    (omega (arith, copied.len))
    ∙ ap (λ z. take c.args.at c.args.buffer.now ++ take byte_count z)
    (copied.after ∙ c.to_le_bytes.ensures)
