use Rattle.std.proofs.Common.{rules, take}
use Rattle.enc_writer.proofs.Utf16WritingLemmas.{written_pushed}
use Rattle.enc_writer.proofs.utf16_writer.Utf16Writer.push.Goals as goal

pub returns-clause-ok : goal.returns-clause-ok
returns-clause-ok g c =
    let writer = c.args.self.now in
    written_pushed writer.order (take writer.filled writer.output.now) (search rules)
