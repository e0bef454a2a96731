use Rattle.std.proofs.Common.{rules, ◌≡◌, refl, ap, false, arith, length}
use Rattle.std.specs.Char.Utf16.{utf16_lossy_chars}
use Rattle.enc_utf8.specs.declared.coder_result.CoderResult.TheVariants.{InputEmpty}
use Rattle.enc_writer.specs.EncodedText.{bytes_from_state}
use Rattle.enc_writer.specs.Writer.{writer_of}
use Rattle.enc_writer.proofs.SinkLemmas.{on_err}
use Rattle.enc_writer.proofs.WritingLemmas.{HasEncoded-none, HasEncoded-push, HasEncoded-then, WritesText-by}
use Rattle.enc_writer.proofs.WritingLemmas.{room_for_next}
use Rattle.enc_writer.proofs.StoppingLemmas.{HasStopped-none, HasStopped-held, StopsText-by, StopsWithin-stopped}
use Rattle.enc_writer.proofs.encode_writer.EncodeWriter.write_utf16.Goals as goal

pub returns-then-self-clause-err : goal.returns-then-self-clause-err
returns-then-self-clause-err g c =
    StopsWithin-stopped _
    (HasStopped-none _ (writer_of c.args.self.now) (utf16_lossy_chars c.args.text.now) false)

pub returns-then-self-clause-stopped : goal.returns-then-self-clause-stopped
returns-then-self-clause-stopped g c =
    StopsText-by
    (HasStopped-none _ (writer_of c.args.self.now) (utf16_lossy_chars c.args.text.now) false)

pub calls-init : goal.calls-init
calls-init g c = record {
  encoded = HasEncoded-none _ (writer_of c.args.self.now) _ _;
  no_push = λ fits. record { same = refl; room = refl; sum = refl };
  going = search rules;
  kept = refl;
  same_writer = refl;
}

pub returns-in_err-make_room-clause-err : goal.returns-in_err-make_room-clause-err
returns-in_err-make_room-clause-err g c =
    on_err c.from_residual.result _
    (StopsWithin-stopped (writer_of c.make_room.new.self)
    (HasStopped-held c.calls.invariant.encoded c.in_err-make_room.ensures.err
    (c.in_err-make_room.ensures.encoder, c.in_err-make_room.ensures.flag)))

pub returns-in_err-make_room-clause-stopped : goal.returns-in_err-make_room-clause-stopped
returns-in_err-make_room-clause-stopped g c =
    on_err c.from_residual.result _
    (StopsText-by (HasStopped-held c.calls.invariant.encoded c.in_err-make_room.ensures.err
    (c.in_err-make_room.ensures.encoder, c.in_err-make_room.ensures.flag)))

pub returns-then-eq-clause-ok : goal.returns-then-eq-clause-ok
returns-then-eq-clause-ok g c =
    let at_end : c.encode_units-outcome.result.0 ≡ InputEmpty = search rules in
    WritesText-by
    (rw (c.encode_units-outcome.ensures.all at_end) at
    (HasEncoded-then c.calls.invariant.encoded
    (HasEncoded-then
    (HasEncoded-push (utf16_lossy_chars c.calls.rest.now) false c.in_ok-make_room.ensures.ok)
    c.encode_units-outcome.ensures.part)))

pub calls-preserved : goal.calls-preserved
calls-preserved g c =
    let unread = ap utf16_lossy_chars c.split_at.ensures.back in
    record {
      encoded = rw unread (HasEncoded-then c.calls.invariant.encoded
          (HasEncoded-then
          (HasEncoded-push (utf16_lossy_chars c.calls.rest.now) false c.in_ok-make_room.ensures.ok)
          c.encode_units-outcome.ensures.part));
      no_push = λ fits.
          let before = c.args.self.now in
          let now = c.calls.invariant.no_push fits in
          let same : c.make_room.new.self ≡ c.calls.self =
          c.make_room.ensures.no_push (room_for_next before.filled before.output.now
          (bytes_from_state before.encoder (utf16_lossy_chars c.args.text.now)) c.calls.self.filled
          before.within fits now.room (omega (arith, now.sum))) in
          record {
            same = cc (same, now.same, c.encode_units-outcome.ensures.writer);
            room = cc (same, now.room, c.encode_units-outcome.ensures.length);
            sum = cc (same, now.sum, c.encode_units-outcome.ensures.filled);
          };
      going = search rules;
      kept = search rules;
      same_writer = search rules;
    }

pub returns-in_err-make_room-clause-no_push : goal.returns-in_err-make_room-clause-no_push
returns-in_err-make_room-clause-no_push g c = λ fits.
    let before = c.args.self.now in
    let now = c.calls.invariant.no_push fits in
    let same : c.make_room.new.self ≡ c.calls.self =
    c.make_room.ensures.no_push (room_for_next before.filled before.output.now
    (bytes_from_state before.encoder (utf16_lossy_chars c.args.text.now)) c.calls.self.filled
    before.within fits now.room (omega (arith, now.sum))) in
    cc (same, now.same)

pub returns-then-eq-clause-no_push : goal.returns-then-eq-clause-no_push
returns-then-eq-clause-no_push g c = λ fits.
    let before = c.args.self.now in
    let now = c.calls.invariant.no_push fits in
    let same : c.make_room.new.self ≡ c.calls.self =
    c.make_room.ensures.no_push (room_for_next before.filled before.output.now
    (bytes_from_state before.encoder (utf16_lossy_chars c.args.text.now)) c.calls.self.filled
    before.within fits now.room (omega (arith, now.sum))) in
    cc (same, now.same, c.encode_units-outcome.ensures.writer)
