use Rattle.std.proofs.Common.{rules, take}
use Rattle.enc_writer.proofs.WritingLemmas.{PushesBytes-all}
use Rattle.enc_writer.proofs.encode_writer.EncodeWriter.push.Goals as goal

pub returns-clause-ok : goal.returns-clause-ok
returns-clause-ok g c =
    let writer = c.args.self.now in
    PushesBytes-all writer.encoder writer.had_unmappables (take writer.filled writer.output.now)
    c.args.bytes.now (search rules)
