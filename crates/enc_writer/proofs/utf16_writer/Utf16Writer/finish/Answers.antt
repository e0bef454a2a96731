use Rattle.std.proofs.Common.{ap, ◌∙◌, take}
use Rattle.enc_writer.proofs.SinkLemmas.{on_ok_both}
use Rattle.enc_writer.proofs.Utf16WritingLemmas.{ends_by, state_of}
use Rattle.enc_writer.proofs.utf16_writer.Utf16Writer.finish.Goals as goal

pub returns-clause-ok : goal.returns-clause-ok
returns-clause-ok g c =
    let flushed = c.flush.new.self in
    on_ok_both c.flush.result
    (λ writes none_held. ends_by writes (ap (λ n. take n flushed.output.now) none_held))
    c.flush.ensures.ok c.flush.ensures.none_held

pub returns-clause-ended : goal.returns-clause-ended
returns-clause-ended g c =
    let flushed = c.flush.new.self in
    on_ok_both c.flush.result
    (λ writes none_held.
    ap (λ order. state_of order (take flushed.filled flushed.output.now)) writes.alone.order
    ∙ ap (λ n. state_of c.args.self.now.order (take n flushed.output.now)) none_held)
    c.flush.ensures.ok c.flush.ensures.none_held
