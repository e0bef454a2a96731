use Rattle.std.proofs.Common.{rules, ◌≡◌, [], ◌++◌, chars, Some, ap, ◌∙◌}
use Rattle.enc_writer.specs.Writer.{writer_of}
use Rattle.enc_writer.specs.Writing.{owed_bytes}
use Rattle.example_callers.proofs.streams.written_bytes.Goals as goal

pub returns : goal.returns
returns c =
    let first = c.new-writer.result in
    let text = chars c.args.text.now in
    let empty : first.writer.now.inner.items ≡ [] = search rules in
    let taken = c.in_default-finish.ensures.ok (Some first.writer.now.inner.items)
    (writer_of first) text c.in_default.ensures.ok.alone in
    let last : c.into_inner.result.items ≡ c.finish.new.self.writer.now.inner.items =
    search rules in
    last ∙ taken ∙ ap (λ l. l ++ owed_bytes (writer_of first) text) empty
    ∙ c.new-writer.ensures.owed text
