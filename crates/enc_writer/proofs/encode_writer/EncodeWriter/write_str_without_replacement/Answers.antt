use Rattle.std.proofs.Common.{rules, ◌≡◌, ◌+◌, refl, ap, ◌∙◌}
use Rattle.std.proofs.Common.{subst, chars, drop, length, arith, false, IsUtf8}
use Rattle.std.proofs.Math.ListN.{length-drop}
use Rattle.std.proofs.lemmas.List.{drop-drop}
use Rattle.std.proofs.lemmas.Str.{IsCharBoundary-from_drop, IsUtf8-drop}
use Rattle.enc_input.specs.declared.encoder_result.EncoderResult.TheVariants.{InputEmpty, OutputFull, Unmappable}
use Rattle.enc_writer.specs.EncodedText.{bytes_from_state}
use Rattle.enc_writer.specs.Writer.{writer_of}
use Rattle.enc_writer.proofs.SinkLemmas.{on_err}
use Rattle.enc_writer.proofs.WritingLemmas.{PushesBytes-none, room_for_next}
use Rattle.enc_writer.proofs.StoppingLemmas.{HasStopped-none, StopsText-by, StopsWithin-stopped}
use Rattle.enc_writer.proofs.ReportLemmas.{ReportsSteps-push, ReportsSteps-then}
use Rattle.enc_writer.proofs.ReportLemmas.{WritesText-reported, HasStopped-reported, none_unmappable}
use Rattle.enc_writer.proofs.AfterReportLemmas.{ReportsText-by}
use Rattle.enc_writer.proofs.encode_writer.EncodeWriter.write_str_without_replacement.Goals as goal

pub returns-then-self-clause-err : goal.returns-then-self-clause-err
returns-then-self-clause-err g c =
    StopsWithin-stopped _
    (HasStopped-none _ (writer_of c.args.self.now) (chars c.args.text.now) false)

pub returns-then-self-clause-stopped : goal.returns-then-self-clause-stopped
returns-then-self-clause-stopped g c =
    StopsText-by (HasStopped-none _ (writer_of c.args.self.now) (chars c.args.text.now) false)

pub calls-init : goal.calls-init
calls-init g c = (
  search rules,
  record {
    reports = ReportsSteps-push (chars c.args.text.now)
        (PushesBytes-none _ (writer_of c.args.self.now));
    within = search rules;
    rest_is = refl;
    no_push = λ fits. record { same = refl; room = refl; sum = search rules };
    going = search rules;
    had = refl;
    kept = refl;
    same_writer = refl;
  },
)

pub returns-in_err-make_room-clause-err : goal.returns-in_err-make_room-clause-err
returns-in_err-make_room-clause-err g c =
    on_err c.from_residual.result _
    (StopsWithin-stopped (writer_of c.make_room.new.self)
    (HasStopped-reported c.calls.invariant.1.reports.reports c.calls.invariant.1.had
    c.in_err-make_room.ensures.err
    (c.in_err-make_room.ensures.encoder, c.in_err-make_room.ensures.flag)))

pub returns-in_err-make_room-clause-stopped : goal.returns-in_err-make_room-clause-stopped
returns-in_err-make_room-clause-stopped g c =
    on_err c.from_residual.result _
    (StopsText-by
    (HasStopped-reported c.calls.invariant.1.reports.reports c.calls.invariant.1.had
    c.in_err-make_room.ensures.err
    (c.in_err-make_room.ensures.encoder, c.in_err-make_room.ensures.flag)))

pub overflow_add-taken : goal.overflow_add-taken
overflow_add-taken g c =
    let rest_is = ap length c.calls.invariant.1.rest_is
    ∙ length-drop c.calls.taken c.args.text.now in
    omega (arith, rest_is, c.encode_mappable-outcome.ensures.read)

pub returns-in-InputEmpty-clause-ok : goal.returns-in-InputEmpty-clause-ok
returns-in-InputEmpty-clause-ok g c =
    let is : c.encode_mappable-outcome.result.0 ≡ InputEmpty = search rules in
    WritesText-reported (rw (c.encode_mappable-outcome.ensures.all is, is) at
    (ReportsSteps-then
    (ReportsSteps-then c.calls.invariant.1.reports
    (ReportsSteps-push (chars c.calls.rest.now) c.in_ok-make_room.ensures.ok))
    c.encode_mappable-outcome.ensures.part)) (search rules)

pub returns-in-InputEmpty-clause-mappable : goal.returns-in-InputEmpty-clause-mappable
returns-in-InputEmpty-clause-mappable g c =
    let is : c.encode_mappable-outcome.result.0 ≡ InputEmpty = search rules in
    none_unmappable (rw (c.encode_mappable-outcome.ensures.all is, is) at
    (ReportsSteps-then
    (ReportsSteps-then c.calls.invariant.1.reports
    (ReportsSteps-push (chars c.calls.rest.now) c.in_ok-make_room.ensures.ok))
    c.encode_mappable-outcome.ensures.part))

pub returns-in-Unmappable-clause-stop : goal.returns-in-Unmappable-clause-stop
returns-in-Unmappable-clause-stop g c =
    let is : c.encode_mappable-outcome.result.0 ≡ Unmappable c.in-Unmappable.character =
    search rules in
    let read = c.encode_mappable-outcome.result.1 in
    let unread : drop read c.calls.rest.now ≡ drop (c.calls.taken + read) c.args.text.now =
    ap (drop read) c.calls.invariant.1.rest_is ∙ drop-drop read c.calls.taken c.args.text.now in
    ReportsText-by (rw (is, unread) at
    (ReportsSteps-then
    (ReportsSteps-then c.calls.invariant.1.reports
    (ReportsSteps-push (chars c.calls.rest.now) c.in_ok-make_room.ensures.ok))
    c.encode_mappable-outcome.ensures.part))

pub returns-in-Unmappable-clause-boundary : goal.returns-in-Unmappable-clause-boundary
returns-in-Unmappable-clause-boundary g c =
    let read = c.encode_mappable-outcome.result.1 in
    let unread : drop read c.calls.rest.now ≡ drop (c.calls.taken + read) c.args.text.now =
    ap (drop read) c.calls.invariant.1.rest_is ∙ drop-drop read c.calls.taken c.args.text.now in
    let rest_is = ap length c.calls.invariant.1.rest_is
    ∙ length-drop c.calls.taken c.args.text.now in
    IsCharBoundary-from_drop c.args.text.now (c.calls.taken + read)
    (omega (arith, rest_is, c.encode_mappable-outcome.ensures.read, c.calls.invariant.1.within))
    (subst IsUtf8 unread
    (IsUtf8-drop c.calls.rest.now read c.calls.invariant.0
    c.encode_mappable-outcome.ensures.boundary))

pub calls-preserved : goal.calls-preserved
calls-preserved g c =
    let is : c.encode_mappable-outcome.result.0 ≡ OutputFull = search rules in
    let read = c.encode_mappable-outcome.result.1 in
    let unread = ap chars c.split_at.ensures.back in
    let rest_is = ap length c.calls.invariant.1.rest_is
    ∙ length-drop c.calls.taken c.args.text.now in (
      search rules,
      record {
        reports = rw unread (rw is at
            (ReportsSteps-then
            (ReportsSteps-then c.calls.invariant.1.reports
            (ReportsSteps-push (chars c.calls.rest.now) c.in_ok-make_room.ensures.ok))
            c.encode_mappable-outcome.ensures.part));
        within = omega (
          arith,
          rest_is,
          c.encode_mappable-outcome.ensures.read,
          c.calls.invariant.1.within,
        );
        rest_is = c.split_at.ensures.back ∙ ap (drop read) c.calls.invariant.1.rest_is
            ∙ drop-drop read c.calls.taken c.args.text.now;
        no_push = λ fits.
            let before = c.args.self.now in
            let now = c.calls.invariant.1.no_push fits in
            let same : c.make_room.new.self ≡ c.calls.self =
            c.make_room.ensures.no_push (room_for_next before.filled before.output.now
            (bytes_from_state before.encoder (chars c.args.text.now)) c.calls.self.filled
            before.within fits now.room (omega (arith, now.sum))) in
            let filled = c.encode_mappable-outcome.ensures.filled in
            record {
              same = cc (same, now.same, c.encode_mappable-outcome.ensures.writer);
              room = cc (same, now.room, c.encode_mappable-outcome.ensures.length);
              sum = omega (arith, rw (same, ← unread) at filled, now.sum);
            };
        going = search rules;
        had = search rules;
        kept = search rules;
        same_writer = search rules;
      },
    )

pub returns-in_err-make_room-clause-no_push : goal.returns-in_err-make_room-clause-no_push
returns-in_err-make_room-clause-no_push g c = λ fits.
    let before = c.args.self.now in
    let now = c.calls.invariant.1.no_push fits in
    let same : c.make_room.new.self ≡ c.calls.self =
    c.make_room.ensures.no_push (room_for_next before.filled before.output.now
    (bytes_from_state before.encoder (chars c.args.text.now)) c.calls.self.filled
    before.within fits now.room (omega (arith, now.sum))) in
    cc (same, now.same)

pub returns-in-InputEmpty-clause-no_push : goal.returns-in-InputEmpty-clause-no_push
returns-in-InputEmpty-clause-no_push g c = λ fits.
    let before = c.args.self.now in
    let now = c.calls.invariant.1.no_push fits in
    let same : c.make_room.new.self ≡ c.calls.self =
    c.make_room.ensures.no_push (room_for_next before.filled before.output.now
    (bytes_from_state before.encoder (chars c.args.text.now)) c.calls.self.filled
    before.within fits now.room (omega (arith, now.sum))) in
    cc (same, now.same, c.encode_mappable-outcome.ensures.writer)

pub returns-in-Unmappable-clause-no_push : goal.returns-in-Unmappable-clause-no_push
returns-in-Unmappable-clause-no_push g c = λ fits.
    let before = c.args.self.now in
    let now = c.calls.invariant.1.no_push fits in
    let same : c.make_room.new.self ≡ c.calls.self =
    c.make_room.ensures.no_push (room_for_next before.filled before.output.now
    (bytes_from_state before.encoder (chars c.args.text.now)) c.calls.self.filled
    before.within fits now.room (omega (arith, now.sum))) in
    cc (same, now.same, c.encode_mappable-outcome.ensures.writer)
