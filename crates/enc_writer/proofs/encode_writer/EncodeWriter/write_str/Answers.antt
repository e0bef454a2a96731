use Rattle.std.proofs.Common.{rules, ◌≡◌, chars, drop, take, false}
use Rattle.std.proofs.lemmas.Result.{on_ok_weaker, on_err_weaker}
use Rattle.enc_writer.specs.Writer.{writer_of}
use Rattle.enc_writer.proofs.SinkLemmas.{on_err}
use Rattle.enc_writer.proofs.WritingLemmas.{HasEncoded-none, HasEncoded-pushed, HasEncoded-then, WritesText-by}
use Rattle.enc_writer.proofs.StoppingLemmas.{HasStopped-none, HasStopped-pushed, HasStopped-after}
use Rattle.enc_writer.proofs.StoppingLemmas.{StopsText-by, StopsWithin-stopped}
use Rattle.enc_writer.proofs.encode_writer.EncodeWriter.write_str.Goals as goal

pub returns-then-self-clause-err : goal.returns-then-self-clause-err
returns-then-self-clause-err g c =
    StopsWithin-stopped _
    (HasStopped-none _ (writer_of c.args.self.now) (chars c.args.text.now) false)

pub returns-then-self-clause-stopped : goal.returns-then-self-clause-stopped
returns-then-self-clause-stopped g c =
    StopsText-by (HasStopped-none _ (writer_of c.args.self.now) (chars c.args.text.now) false)

pub returns-in_err-push_any-clause-err : goal.returns-in_err-push_any-clause-err
returns-in_err-push_any-clause-err g c =
    let bytes_are : c.as_bytes.result.now ≡ take c.unencoded_len-len.result c.args.text.now =
    search rules in
    on_err c.from_residual.result _
    (StopsWithin-stopped (writer_of c.push_any.new.self)
    (HasStopped-pushed
    (HasEncoded-none _ (writer_of c.args.self.now) (chars c.args.text.now) false)
    c.unencoded_len-len.ensures.own (rw bytes_are at c.in_err-push_any.ensures.err)
    (c.in_err-push_any.ensures.encoder, c.in_err-push_any.ensures.flag)))

pub returns-in_err-push_any-clause-stopped : goal.returns-in_err-push_any-clause-stopped
returns-in_err-push_any-clause-stopped g c =
    let bytes_are : c.as_bytes.result.now ≡ take c.unencoded_len-len.result c.args.text.now =
    search rules in
    on_err c.from_residual.result _
    (StopsText-by
    (HasStopped-pushed
    (HasEncoded-none _ (writer_of c.args.self.now) (chars c.args.text.now) false)
    c.unencoded_len-len.ensures.own (rw bytes_are at c.in_err-push_any.ensures.err)
    (c.in_err-push_any.ensures.encoder, c.in_err-push_any.ensures.flag)))

pub returns-clause-ok : goal.returns-clause-ok
returns-clause-ok g c =
    let len = c.unencoded_len-len.result in
    let bytes_are : c.as_bytes.result.now ≡ take len c.args.text.now = search rules in
    let unread : c.split_at.result.1.now ≡ drop len c.args.text.now = search rules in
    let first = HasEncoded-pushed c.unencoded_len-len.ensures.own
    (rw bytes_are at c.in_ok-push_any.ensures.ok) in
    on_ok_weaker c.encode.result (λ encoded. WritesText-by (HasEncoded-then first encoded))
    (rw unread at c.encode.ensures.ok)

pub returns-clause-err : goal.returns-clause-err
returns-clause-err g c =
    let len = c.unencoded_len-len.result in
    let bytes_are : c.as_bytes.result.now ≡ take len c.args.text.now = search rules in
    let unread : c.split_at.result.1.now ≡ drop len c.args.text.now = search rules in
    let first = HasEncoded-pushed c.unencoded_len-len.ensures.own
    (rw bytes_are at c.in_ok-push_any.ensures.ok) in
    on_err_weaker c.encode.result (λ part. StopsWithin-stopped _ (HasStopped-after first part))
    (rw unread at c.encode.ensures.err)

pub returns-clause-stopped : goal.returns-clause-stopped
returns-clause-stopped g c =
    let len = c.unencoded_len-len.result in
    let bytes_are : c.as_bytes.result.now ≡ take len c.args.text.now = search rules in
    let unread : c.split_at.result.1.now ≡ drop len c.args.text.now = search rules in
    let first = HasEncoded-pushed c.unencoded_len-len.ensures.own
    (rw bytes_are at c.in_ok-push_any.ensures.ok) in
    on_err_weaker c.encode.result (λ part. StopsText-by (HasStopped-after first part))
    (rw unread at c.encode.ensures.err)
