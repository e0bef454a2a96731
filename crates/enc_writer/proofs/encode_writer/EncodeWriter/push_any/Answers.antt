use Rattle.std.proofs.Common.{rules, ◌≡◌, length}
use Rattle.std.proofs.lemmas.List.{nil_from_length}
use Rattle.enc_writer.specs.Writer.{writer_of}
use Rattle.enc_writer.proofs.WritingLemmas.{PushesBytes-none}
use Rattle.enc_writer.proofs.encode_writer.EncodeWriter.push_any.Goals as goal

pub returns-then-is_empty-clause-ok : goal.returns-then-is_empty-clause-ok
returns-then-is_empty-clause-ok g c =
    let none : length c.args.bytes.now ≡ 0 = search rules in
    rw (nil_from_length c.args.bytes.now none) (PushesBytes-none _ (writer_of c.args.self.now))
