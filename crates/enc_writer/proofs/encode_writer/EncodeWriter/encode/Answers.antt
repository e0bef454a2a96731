use Rattle.std.proofs.Common.{rules, ◌≡◌, refl, ap, chars, arith, length}
use Rattle.enc_utf8.specs.declared.coder_result.CoderResult.TheVariants.{InputEmpty}
use Rattle.enc_writer.specs.EncodedText.{bytes_from_state}
use Rattle.enc_writer.specs.Writer.{writer_of}
use Rattle.enc_writer.proofs.SinkLemmas.{on_err}
use Rattle.enc_writer.proofs.WritingLemmas.{HasEncoded-none, HasEncoded-push, HasEncoded-then, room_for_next}
use Rattle.enc_writer.proofs.StoppingLemmas.{HasStopped-held}
use Rattle.enc_writer.proofs.encode_writer.EncodeWriter.encode.Goals as goal

pub calls-init : goal.calls-init
calls-init g c = (
  search rules,
  record {
    encoded = HasEncoded-none _ (writer_of c.args.self.now) _ _;
    no_push = λ fits. record { same = refl; room = refl; sum = refl };
    going = c.requires.going;
    kept = refl;
    same_writer = refl;
  },
)

pub returns-in_err-make_room-clause-err : goal.returns-in_err-make_room-clause-err
returns-in_err-make_room-clause-err g c =
    on_err c.from_residual.result _
    (HasStopped-held c.calls.invariant.1.encoded c.in_err-make_room.ensures.err
    (c.in_err-make_room.ensures.encoder, c.in_err-make_room.ensures.flag))

pub returns-then-eq-clause-ok : goal.returns-then-eq-clause-ok
returns-then-eq-clause-ok g c =
    let at_end : c.encode_part-outcome.result.0 ≡ InputEmpty = search rules in
    rw (c.encode_part-outcome.ensures.all at_end) at
    (HasEncoded-then c.calls.invariant.1.encoded
    (HasEncoded-then
    (HasEncoded-push (chars c.calls.rest.now) c.args.last c.in_ok-make_room.ensures.ok)
    c.encode_part-outcome.ensures.part))

pub calls-preserved : goal.calls-preserved
calls-preserved g c =
    let unread = ap chars c.split_at.ensures.back in (
      search rules,
      record {
        encoded = rw unread (HasEncoded-then c.calls.invariant.1.encoded
            (HasEncoded-then
            (HasEncoded-push (chars c.calls.rest.now) c.args.last c.in_ok-make_room.ensures.ok)
            c.encode_part-outcome.ensures.part));
        no_push = λ fits.
            let before = c.args.self.now in
            let now = c.calls.invariant.1.no_push fits in
            let same : c.make_room.new.self ≡ c.calls.self =
            c.make_room.ensures.no_push (room_for_next before.filled before.output.now
            (bytes_from_state before.encoder (chars c.args.text.now)) c.calls.self.filled
            before.within fits now.room (omega (arith, now.sum))) in
            record {
              same = cc (same, now.same, c.encode_part-outcome.ensures.writer);
              room = cc (same, now.room, c.encode_part-outcome.ensures.length);
              sum = cc (same, now.sum, c.encode_part-outcome.ensures.filled);
            };
        going = search rules;
        kept = search rules;
        same_writer = search rules;
      },
    )

pub returns-in_err-make_room-clause-no_push : goal.returns-in_err-make_room-clause-no_push
returns-in_err-make_room-clause-no_push g c = λ fits.
    let before = c.args.self.now in
    let now = c.calls.invariant.1.no_push fits in
    let same : c.make_room.new.self ≡ c.calls.self =
    c.make_room.ensures.no_push (room_for_next before.filled before.output.now
    (bytes_from_state before.encoder (chars c.args.text.now)) c.calls.self.filled
    before.within fits now.room (omega (arith, now.sum))) in
    cc (same, now.same)

pub returns-then-eq-clause-no_push : goal.returns-then-eq-clause-no_push
returns-then-eq-clause-no_push g c = λ fits.
    let before = c.args.self.now in
    let now = c.calls.invariant.1.no_push fits in
    let same : c.make_room.new.self ≡ c.calls.self =
    c.make_room.ensures.no_push (room_for_next before.filled before.output.now
    (bytes_from_state before.encoder (chars c.args.text.now)) c.calls.self.filled
    before.within fits now.room (omega (arith, now.sum))) in
    cc (same, now.same, c.encode_part-outcome.ensures.writer)
