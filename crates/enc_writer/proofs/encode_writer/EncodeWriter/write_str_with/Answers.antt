use Rattle.std.proofs.Common.{rules, ◌≡◌, refl, ap, chars, drop, length}
use Rattle.enc_input.specs.declared.encoder_result.EncoderResult.TheVariants.{InputEmpty, OutputFull, Unmappable}
use Rattle.enc_writer.specs.Policies.{policy_bytes}
use Rattle.enc_writer.specs.Writer.{writer_of}
use Rattle.enc_writer.proofs.SinkLemmas.{on_err}
use Rattle.enc_writer.proofs.WritingLemmas.{PushesBytes-none}
use Rattle.enc_writer.proofs.PolicyStepLemmas.{HasEncodedWith-push, HasEncodedWith-pushed, HasEncodedWith-then}
use Rattle.enc_writer.proofs.PolicyStepLemmas.{HasEncodedWith-mappable, HasEncodedWith-put, HasEncodedWith-references}
use Rattle.enc_writer.proofs.PolicyStepLemmas.{room_by_steps, room_now, room_before_put}
use Rattle.enc_writer.proofs.PolicyLemmas.{HasWrittenWith-by, WritesWith-alone, WritesText-references}
use Rattle.enc_writer.proofs.PolicyLemmas.{HasStoppedWith-none, HasStoppedWith-held, HasStoppedWith-put, StopsWith-by}
use Rattle.enc_writer.proofs.PolicyLemmas.{WritesText-policy, StopsText-policy}
use Rattle.enc_writer.proofs.encode_writer.EncodeWriter.write_str_with.Goals as goal

pub returns-then-self-clause-stopped : goal.returns-then-self-clause-stopped
returns-then-self-clause-stopped g c =
    StopsWith-by
    (HasStoppedWith-none (policy_bytes c.args.policy) _ (writer_of c.args.self.now)
    (chars c.args.text.now))

pub returns-then-self-clause-references_stopped : goal.returns-then-self-clause-references_stopped
returns-then-self-clause-references_stopped g c = λ is_reference.
    StopsText-policy c.args.policy is_reference
    (HasStoppedWith-none (policy_bytes c.args.policy) _ (writer_of c.args.self.now)
    (chars c.args.text.now))

pub calls-init : goal.calls-init
calls-init g c = (
  search rules,
  record {
    encoded = HasEncodedWith-push (policy_bytes c.args.policy) (chars c.args.text.now)
        (PushesBytes-none _ (writer_of c.args.self.now));
    no_push = λ fits. record { same = refl; room = refl };
    going = search rules;
    kept = refl;
    same_writer = refl;
  },
)

pub returns-in_err-make_room-clause-stopped : goal.returns-in_err-make_room-clause-stopped
returns-in_err-make_room-clause-stopped g c =
    on_err c.from_residual.result _
    (StopsWith-by
    (HasStoppedWith-held c.calls.invariant.1.encoded c.in_err-make_room.ensures.err
    (c.in_err-make_room.ensures.encoder, c.in_err-make_room.ensures.flag)))

pub returns-in_err-make_room-clause-references_stopped :
    goal.returns-in_err-make_room-clause-references_stopped
returns-in_err-make_room-clause-references_stopped g c = λ is_reference.
    on_err c.from_residual.result _
    (StopsText-policy c.args.policy is_reference
    (HasStoppedWith-held c.calls.invariant.1.encoded c.in_err-make_room.ensures.err
    (c.in_err-make_room.ensures.encoder, c.in_err-make_room.ensures.flag)))

pub returns-in-InputEmpty-clause-ok : goal.returns-in-InputEmpty-clause-ok
returns-in-InputEmpty-clause-ok g c =
    let is : c.encode_mappable-outcome.result.0 ≡ InputEmpty = search rules in
    WritesWith-alone
    (HasWrittenWith-by
    (HasEncodedWith-then
    (HasEncodedWith-pushed c.calls.invariant.1.encoded c.in_ok-make_room.ensures.ok)
    (HasEncodedWith-mappable
    (rw (c.encode_mappable-outcome.ensures.all is, is) at c.encode_mappable-outcome.ensures.part)
    (policy_bytes c.args.policy) (λ x e. cc) refl c.encode_mappable-outcome.ensures.had)))

pub returns-in-InputEmpty-clause-references : goal.returns-in-InputEmpty-clause-references
returns-in-InputEmpty-clause-references g c = λ is_reference.
    let is : c.encode_mappable-outcome.result.0 ≡ InputEmpty = search rules in
    WritesText-policy c.args.policy is_reference
    (HasEncodedWith-then
    (HasEncodedWith-pushed c.calls.invariant.1.encoded c.in_ok-make_room.ensures.ok)
    (HasEncodedWith-mappable
    (rw (c.encode_mappable-outcome.ensures.all is, is) at c.encode_mappable-outcome.ensures.part)
    (policy_bytes c.args.policy) (λ x e. cc) refl c.encode_mappable-outcome.ensures.had))

pub returns-in-InputEmpty-clause-mappable : goal.returns-in-InputEmpty-clause-mappable
returns-in-InputEmpty-clause-mappable g c = λ none.
    let is : c.encode_mappable-outcome.result.0 ≡ InputEmpty = search rules in
    WritesText-references
    (HasEncodedWith-references
    (HasEncodedWith-then
    (HasEncodedWith-pushed c.calls.invariant.1.encoded c.in_ok-make_room.ensures.ok)
    (HasEncodedWith-mappable
    (rw (c.encode_mappable-outcome.ensures.all is, is) at c.encode_mappable-outcome.ensures.part)
    (policy_bytes c.args.policy) (λ x e. cc) refl c.encode_mappable-outcome.ensures.had)) none)

pub calls-preserved-in-OutputFull : goal.calls-preserved-in-OutputFull
calls-preserved-in-OutputFull g c =
    let is : c.encode_mappable-outcome.result.0 ≡ OutputFull = search rules in
    let unread : chars c.split_at.result.1.now
    ≡ chars (drop c.encode_mappable-outcome.result.1 c.calls.rest.now) =
    ap chars c.split_at.ensures.back in (
      search rules,
      record {
        encoded = rw unread
            (HasEncodedWith-then
            (HasEncodedWith-pushed c.calls.invariant.1.encoded c.in_ok-make_room.ensures.ok)
            (HasEncodedWith-mappable (rw is at c.encode_mappable-outcome.ensures.part)
            (policy_bytes c.args.policy) (λ x e. cc) refl
            c.encode_mappable-outcome.ensures.had));
        no_push = λ fits.
            let now = c.calls.invariant.1.no_push fits in
            let same : c.make_room.new.self ≡ c.calls.self =
            c.make_room.ensures.no_push (room_now c.calls.self.filled c.calls.self.output.now
            c.calls.self.within (room_by_steps c.calls.invariant.1.encoded fits) now.room) in
            record {
              same = cc (same, now.same, c.encode_mappable-outcome.ensures.writer);
              room = cc (same, now.room, c.encode_mappable-outcome.ensures.length);
            };
        going = search rules;
        kept = search rules;
        same_writer = search rules;
      },
    )

pub calls-preserved : goal.calls-preserved
calls-preserved g c =
    let is : c.encode_mappable-outcome.result.0 ≡ Unmappable c.in-Unmappable.c = search rules in
    let unread : chars c.split_at.result.1.now
    ≡ chars (drop c.encode_mappable-outcome.result.1 c.calls.rest.now) =
    ap chars c.split_at.ensures.back in
    let before = c.encode_mappable-outcome.new.self in (
      search rules,
      record {
        encoded = rw unread
            (HasEncodedWith-then
            (HasEncodedWith-pushed c.calls.invariant.1.encoded c.in_ok-make_room.ensures.ok)
            (HasEncodedWith-put c.encode_mappable-outcome.ensures.part
            (policy_bytes c.args.policy) c.in-Unmappable.c is
            c.in_ok-put_unmappable-in-Unmappable.ensures.ok));
        no_push = λ fits.
            let now = c.calls.invariant.1.no_push fits in
            let same : c.make_room.new.self ≡ c.calls.self =
            c.make_room.ensures.no_push (room_now c.calls.self.filled c.calls.self.output.now
            c.calls.self.within (room_by_steps c.calls.invariant.1.encoded fits) now.room) in
            let length_is : length before.output.now ≡ length c.args.self.now.output.now =
            cc (same, now.room, c.encode_mappable-outcome.ensures.length) in
            let room = room_now before.filled before.output.now before.within
            (room_before_put c.in-Unmappable.c is
            (HasEncodedWith-pushed c.calls.invariant.1.encoded c.in_ok-make_room.ensures.ok)
            c.encode_mappable-outcome.ensures.part fits) length_is in
            record {
              same = cc (
                same,
                now.same,
                c.encode_mappable-outcome.ensures.writer,
                c.put_unmappable.ensures.no_push room,
              );
              room = cc (length_is, c.put_unmappable.ensures.length room);
            };
        going = search rules;
        kept = search rules;
        same_writer = search rules;
      },
    )

pub returns-in_err-put_unmappable-in-Unmappable-clause-stopped :
    goal.returns-in_err-put_unmappable-in-Unmappable-clause-stopped
returns-in_err-put_unmappable-in-Unmappable-clause-stopped g c =
    let is : c.encode_mappable-outcome.result.0 ≡ Unmappable c.in-Unmappable.c = search rules in
    let put = c.in_err-put_unmappable-in-Unmappable.ensures in
    on_err c.from_residual-in_err-put_unmappable-in-Unmappable.result _
    (StopsWith-by
    (HasStoppedWith-put c.in-Unmappable.c is
    (HasEncodedWith-pushed c.calls.invariant.1.encoded c.in_ok-make_room.ensures.ok)
    c.encode_mappable-outcome.ensures.part put.err (put.encoder, put.flag)))

pub returns-in_err-put_unmappable-in-Unmappable-clause-references_stopped :
    goal.returns-in_err-put_unmappable-in-Unmappable-clause-references_stopped
returns-in_err-put_unmappable-in-Unmappable-clause-references_stopped g c = λ is_reference.
    let is : c.encode_mappable-outcome.result.0 ≡ Unmappable c.in-Unmappable.c = search rules in
    let put = c.in_err-put_unmappable-in-Unmappable.ensures in
    on_err c.from_residual-in_err-put_unmappable-in-Unmappable.result _
    (StopsText-policy c.args.policy is_reference
    (HasStoppedWith-put c.in-Unmappable.c is
    (HasEncodedWith-pushed c.calls.invariant.1.encoded c.in_ok-make_room.ensures.ok)
    c.encode_mappable-outcome.ensures.part put.err (put.encoder, put.flag)))

-- where no byte is pushed

pub returns-in_err-make_room-clause-no_push : goal.returns-in_err-make_room-clause-no_push
returns-in_err-make_room-clause-no_push g c = λ fits.
    let now = c.calls.invariant.1.no_push fits in
    let same : c.make_room.new.self ≡ c.calls.self =
    c.make_room.ensures.no_push (room_now c.calls.self.filled c.calls.self.output.now
    c.calls.self.within (room_by_steps c.calls.invariant.1.encoded fits) now.room) in
    cc (same, now.same)

pub returns-in_err-make_room-clause-no_fault : goal.returns-in_err-make_room-clause-no_fault
returns-in_err-make_room-clause-no_fault g c = λ fits.
    let now = c.calls.invariant.1.no_push fits in
    let same : c.make_room.new.self ≡ c.calls.self =
    c.make_room.ensures.no_push (room_now c.calls.self.filled c.calls.self.output.now
    c.calls.self.within (room_by_steps c.calls.invariant.1.encoded fits) now.room) in
    cc (same, now.same, c.args.self.now.going)

pub returns-in-InputEmpty-clause-no_push : goal.returns-in-InputEmpty-clause-no_push
returns-in-InputEmpty-clause-no_push g c = λ fits.
    let now = c.calls.invariant.1.no_push fits in
    let same : c.make_room.new.self ≡ c.calls.self =
    c.make_room.ensures.no_push (room_now c.calls.self.filled c.calls.self.output.now
    c.calls.self.within (room_by_steps c.calls.invariant.1.encoded fits) now.room) in
    cc (same, now.same, c.encode_mappable-outcome.ensures.writer)

pub returns-in_err-put_unmappable-in-Unmappable-clause-no_push :
    goal.returns-in_err-put_unmappable-in-Unmappable-clause-no_push
returns-in_err-put_unmappable-in-Unmappable-clause-no_push g c = λ fits.
    let is : c.encode_mappable-outcome.result.0 ≡ Unmappable c.in-Unmappable.c = search rules in
    let before = c.encode_mappable-outcome.new.self in
    let now = c.calls.invariant.1.no_push fits in
    let same : c.make_room.new.self ≡ c.calls.self =
    c.make_room.ensures.no_push (room_now c.calls.self.filled c.calls.self.output.now
    c.calls.self.within (room_by_steps c.calls.invariant.1.encoded fits) now.room) in
    let length_is : length before.output.now ≡ length c.args.self.now.output.now =
    cc (same, now.room, c.encode_mappable-outcome.ensures.length) in
    let room = room_now before.filled before.output.now before.within
    (room_before_put c.in-Unmappable.c is
    (HasEncodedWith-pushed c.calls.invariant.1.encoded c.in_ok-make_room.ensures.ok)
    c.encode_mappable-outcome.ensures.part fits) length_is in
    cc (
      same,
      now.same,
      c.encode_mappable-outcome.ensures.writer,
      c.put_unmappable.ensures.no_push room,
    )

pub returns-in_err-put_unmappable-in-Unmappable-clause-no_fault :
    goal.returns-in_err-put_unmappable-in-Unmappable-clause-no_fault
returns-in_err-put_unmappable-in-Unmappable-clause-no_fault g c = λ fits.
    let is : c.encode_mappable-outcome.result.0 ≡ Unmappable c.in-Unmappable.c = search rules in
    let before = c.encode_mappable-outcome.new.self in
    let now = c.calls.invariant.1.no_push fits in
    let same : c.make_room.new.self ≡ c.calls.self =
    c.make_room.ensures.no_push (room_now c.calls.self.filled c.calls.self.output.now
    c.calls.self.within (room_by_steps c.calls.invariant.1.encoded fits) now.room) in
    let length_is : length before.output.now ≡ length c.args.self.now.output.now =
    cc (same, now.room, c.encode_mappable-outcome.ensures.length) in
    let room = room_now before.filled before.output.now before.within
    (room_before_put c.in-Unmappable.c is
    (HasEncodedWith-pushed c.calls.invariant.1.encoded c.in_ok-make_room.ensures.ok)
    c.encode_mappable-outcome.ensures.part fits) length_is in
    cc (
      same,
      now.same,
      c.encode_mappable-outcome.ensures.writer,
      c.put_unmappable.ensures.no_push room,
      c.put_unmappable.new.self.going,
      c.args.self.now.going,
    )
