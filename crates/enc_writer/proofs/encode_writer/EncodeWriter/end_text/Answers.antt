use Rattle.std.proofs.Common.{[], true, refl, ap}
use Rattle.std.proofs.lemmas.Str.{chars-nil}
use Rattle.enc_writer.specs.EncodedText.{text_to_encode}
use Rattle.enc_writer.specs.Writing.{WriterState}
use Rattle.enc_writer.specs.Writer.{writer_of}
use Rattle.enc_writer.proofs.EncodingLemmas.{EncodesText-none}
use Rattle.enc_writer.proofs.SinkLemmas.{on_err}
use Rattle.enc_writer.proofs.StoppingLemmas.{HasStopped-none, HasStopped-pushed, StopsText-by, StopsWithin-stopped}
use Rattle.enc_writer.proofs.WritingLemmas.{EndsText-by, flag_stays, writer_ends}
use Rattle.enc_writer.proofs.PolicyLemmas.{EndsWith-by}
use Rattle.enc_writer.proofs.encode_writer.EncodeWriter.end_text.Goals as goal

pub returns-then-self-clause-err : goal.returns-then-self-clause-err
returns-then-self-clause-err g c =
    StopsWithin-stopped _ (HasStopped-none _ (writer_of c.args.self.now) [] true)

pub returns-then-self-clause-stopped : goal.returns-then-self-clause-stopped
returns-then-self-clause-stopped g c =
    StopsText-by (HasStopped-none _ (writer_of c.args.self.now) [] true)

pub returns-in_err-encode-clause-err : goal.returns-in_err-encode-clause-err
returns-in_err-encode-clause-err g c =
    on_err c.from_residual.result _
    (StopsWithin-stopped _ (rw chars-nil at c.in_err-encode.ensures.err))

pub returns-in_err-encode-clause-stopped : goal.returns-in_err-encode-clause-stopped
returns-in_err-encode-clause-stopped g c =
    on_err c.from_residual.result _
    (StopsText-by (rw chars-nil at c.in_err-encode.ensures.err))

pub returns-in_err-push-clause-err : goal.returns-in_err-push-clause-err
returns-in_err-push-clause-err g c =
    on_err c.from_residual-in_err-push.result _
    (StopsWithin-stopped (writer_of c.push.new.self)
    (HasStopped-pushed (rw chars-nil at c.in_ok-encode.ensures.ok)
    (EncodesText-none (text_to_encode c.encode.new.self.encoder []) true)
    c.in_err-push.ensures.err (c.in_err-push.ensures.encoder, c.in_err-push.ensures.flag)))

pub returns-in_err-push-clause-stopped : goal.returns-in_err-push-clause-stopped
returns-in_err-push-clause-stopped g c =
    on_err c.from_residual-in_err-push.result _
    (StopsText-by (HasStopped-pushed (rw chars-nil at c.in_ok-encode.ensures.ok)
    (EncodesText-none (text_to_encode c.encode.new.self.encoder []) true)
    c.in_err-push.ensures.err (c.in_err-push.ensures.encoder, c.in_err-push.ensures.flag)))

pub returns-clause-ok : goal.returns-clause-ok
returns-clause-ok g c =
    EndsText-by (rw chars-nil at c.in_ok-encode.ensures.ok) (c.in_ok-encode.ensures.ended refl)
    c.in_ok-push.ensures.ok
    (ap (λ (w : WriterState). w.held) c.in_ok-push.ensures.none_held)

pub returns-clause-flag : goal.returns-clause-flag
returns-clause-flag g c =
    flag_stays (rw chars-nil at c.in_ok-encode.ensures.ok) (c.in_ok-encode.ensures.ended refl)
    c.in_ok-push.ensures.ok

pub returns-clause-ended : goal.returns-clause-ended
returns-clause-ended g c =
    writer_ends (rw chars-nil at c.in_ok-encode.ensures.ok) (c.in_ok-encode.ensures.ended refl)
    c.in_ok-push.ensures.ok
    (ap (λ (w : WriterState). w.held) c.in_ok-push.ensures.none_held)

pub returns-clause-policies : goal.returns-clause-policies
returns-clause-policies g c =
    EndsWith-by
    (EndsText-by (rw chars-nil at c.in_ok-encode.ensures.ok) (c.in_ok-encode.ensures.ended refl)
    c.in_ok-push.ensures.ok
    (ap (λ (w : WriterState). w.held) c.in_ok-push.ensures.none_held))
