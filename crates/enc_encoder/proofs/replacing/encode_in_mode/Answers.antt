use Rattle.std.proofs.Common.{◌≡◌, ◌+◌, ◌≤◌, false, length, refl, arith}
use Rattle.std.proofs.lemmas.Bool.{false≢true}
use Rattle.enc_encoder.specs.declared.character_set.CharacterSet.{CharacterSet}
use Rattle.enc_encoder.specs.declared.character_set.CharacterSet.TheVariants.{Ascii, Roman, Jis0208}
use Rattle.enc_encoder.specs.EncoderRule.{is_escape_due}
use Rattle.enc_encoder.specs.ErrorMode.{mode_of, kept_in}
use Rattle.enc_encoder.proofs.LeavesLemmas.{same_length}
use Rattle.enc_encoder.proofs.BegunLemmas.{begins, room_left, run_in_front}
use Rattle.enc_encoder.proofs.RawCallLemmas.{run_call}
use Rattle.enc_encoder.proofs.ReferenceCallLemmas.{stop_small}
use Rattle.enc_encoder.proofs.replacing.encode_in_mode.Goals as goal

in_ascii : (set : CharacterSet) → false ≡ is_escape_due set → set ≡ Ascii
in_ascii Ascii none_due = refl
in_ascii Roman none_due = absurd (false≢true none_due)
in_ascii Jis0208 none_due = absurd (false≢true none_due)

pub returns-then-dst-kept : goal.returns-then-dst-kept
returns-then-dst-kept g c =
    let call = stop_small g.C.Chars.units_of (mode_of c.args.mode) c.args.last _ _ c.args.dst.now
    (omega (arith, c.kept_free-kept.ensures, c.if-dst-kept.true)) c.full_result.ensures in
    record { within = call.within; rest = call.rest_stays; call = call.call }

pub returns-then-not-has_pending_state : goal.returns-then-not-has_pending_state
returns-then-not-has_pending_state g c =
    let first = c.write_first-written.ensures in
    let room : c.write_first-written.result + kept_in (mode_of c.args.mode)
    ≤ length c.args.dst.now =
    rw (← c.kept_free-kept.ensures) (room_left _ _ _ c.if-dst-kept.false first.run) in
    let call = run_call
    (run_in_front _ c.write_first-written.result (omega arith) first.run c.args.last _
    (omega arith))
    (c.if-is_read.ensures refl) (mode_of c.args.mode) first.lawful
    c.unread-given.ensures (λ _. in_ascii _ c.if-not-has_pending_state.ensures) room in
    record { within = call.within; rest = call.rest_stays; call = call.call }

pub go_on_in_mode-requires : goal.go_on_in_mode-requires
go_on_in_mode-requires g c =
    let start = begins c.args.last c.unread-given.ensures
    (run_in_front _ _ (omega arith) c.write_first-written.ensures.run) in
    let left : c.write_first-written.result + kept_in (mode_of c.args.mode)
    ≤ length c.args.dst.now =
    rw (← c.kept_free-kept.ensures)
    (room_left _ _ _ c.if-dst-kept.false c.write_first-written.ensures.run) in
    record {
      mappable = c.requires.mappable;
      begun = start;
      room = omega (arith, left, same_length start.writes.adds);
    }

pub returns : goal.returns
returns g c =
    let call = c.go_on_in_mode.ensures (begins c.args.last c.unread-given.ensures
    (run_in_front _ _ (omega arith) c.write_first-written.ensures.run)) in
    record { within = call.within; rest = call.rest_stays; call = call.call }
