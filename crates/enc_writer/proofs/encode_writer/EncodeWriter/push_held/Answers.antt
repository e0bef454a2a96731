use Rattle.std.proofs.Common.{[], false}
use Rattle.std.proofs.lemmas.Result.{on_ok_weaker, on_err_weaker}
use Rattle.enc_writer.specs.EncodedText.{text_to_encode}
use Rattle.enc_writer.specs.Writer.{writer_of}
use Rattle.enc_writer.proofs.EncodingLemmas.{EncodesText-none}
use Rattle.enc_writer.proofs.WritingLemmas.{HasEncoded-none, HasEncoded-push, WritesText-by}
use Rattle.enc_writer.proofs.StoppingLemmas.{HasStopped-none, HasStopped-pushed, StopsText-by, StopsWithin-stopped}
use Rattle.enc_writer.proofs.PolicyLemmas.{WritesWith-push}
use Rattle.enc_writer.proofs.encode_writer.EncodeWriter.push_held.Goals as goal

pub returns-then-self-clause-err : goal.returns-then-self-clause-err
returns-then-self-clause-err g c =
    StopsWithin-stopped _ (HasStopped-none _ (writer_of c.args.self.now) [] false)

pub returns-then-self-clause-stopped : goal.returns-then-self-clause-stopped
returns-then-self-clause-stopped g c =
    StopsText-by (HasStopped-none _ (writer_of c.args.self.now) [] false)

pub returns-clause-ok : goal.returns-clause-ok
returns-clause-ok g c =
    on_ok_weaker c.push.result (λ pushes. WritesText-by (HasEncoded-push [] false pushes))
    c.push.ensures.ok

pub returns-clause-err : goal.returns-clause-err
returns-clause-err g c =
    let writer = writer_of c.args.self.now in
    on_err_weaker c.push.result
    (λ part. StopsWithin-stopped (writer_of c.push.new.self)
    (HasStopped-pushed (HasEncoded-none _ writer [] false)
    (EncodesText-none (text_to_encode writer.encoder []) false) part
    (c.push.ensures.encoder, c.push.ensures.flag)))
    c.push.ensures.err

pub returns-clause-stopped : goal.returns-clause-stopped
returns-clause-stopped g c =
    let writer = writer_of c.args.self.now in
    on_err_weaker c.push.result
    (λ part. StopsText-by (HasStopped-pushed (HasEncoded-none _ writer [] false)
    (EncodesText-none (text_to_encode writer.encoder []) false) part
    (c.push.ensures.encoder, c.push.ensures.flag)))
    c.push.ensures.err

pub returns-clause-policies : goal.returns-clause-policies
returns-clause-policies g c =
    on_ok_weaker c.push.result (λ pushes put. WritesWith-push pushes) c.push.ensures.ok
