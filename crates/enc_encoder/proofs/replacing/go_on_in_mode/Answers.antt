use Rattle.std.proofs.Common.{◌-◌, ◌≤◌, length, arith, rules}
use Rattle.std.proofs.lemmas.List.{length-take}
use Rattle.enc_encoder.proofs.LeavesLemmas.{same_length}
use Rattle.enc_encoder.proofs.RawCallLemmas.{unreplaced_call}
use Rattle.enc_encoder.proofs.BegunLemmas.{begun_in_front, begins_here}
use Rattle.enc_encoder.proofs.ReferenceTurnLemmas.{adds_reference, reference_fits, first_turn, turn_after}
use Rattle.enc_encoder.proofs.ReferenceTurnLemmas.{from_start, fewer_left, fewer_turns}
use Rattle.enc_encoder.proofs.ReferenceCallLemmas.{stop_raw, stop_after}
use Rattle.enc_encoder.proofs.replacing.go_on_in_mode.Goals as goal

pub returns-in-Fatal : goal.returns-in-Fatal
returns-in-Fatal g c start =
    rw c.encode_on.ensures.replaced (unreplaced_call (c.encode_on.ensures.call start) c.args.mode
    c.in-Fatal.is c.requires.mappable)

pub encode_on-outcome-requires : goal.encode_on-outcome-requires
encode_on-outcome-requires g c = record {
  begun = begun_in_front _
      (let room = rw c.in-Html.is at c.requires.room in omega (arith, room)) c.requires.begun;
}

pub loop-outcome-init : goal.loop-outcome-init
loop-outcome-init g c start =
    let room = rw c.in-Html.is at c.requires.room in
    let below : c.args.begun.written ≤ length c.args.dst.now - 10 = omega (arith, room) in
    first_turn start _ below (omega arith) c.encode_on-outcome.ensures.lawful
    (c.encode_on-outcome.ensures.call (begun_in_front _ below start))

pub overflow_sub-result : goal.overflow_sub-result
overflow_sub-result g c =
    let start = c.requires.begun in
    fewer_left start (c.loop-outcome.invariant start) c.unread.ensures

pub returns-in_default : goal.returns-in_default
returns-in_default g c start =
    rw c.in-Html.is (stop_raw g.C.Chars.units_of 10
    (let room = rw c.in-Html.is at c.requires.room in
    omega (arith, room, same_length start.writes.adds)) start.counted _
    c.in_default.not-Unmappable (from_start start 10 (c.loop-outcome.invariant start))
    c.unread.ensures)

pub put_reference-written-requires : goal.put_reference-written-requires
put_reference-written-requires g c =
    let start = c.requires.begun in
    record {
      room = reference_fits start (rw c.in-Html.is at c.requires.room)
          (c.loop-outcome.invariant start);
    }

pub overflow_sub-result-then-written-limit : goal.overflow_sub-result-then-written-limit
overflow_sub-result-then-written-limit g c =
    let start = c.requires.begun in
    fewer_left start (c.loop-outcome.invariant start) c.unread-then-written-limit.ensures

pub returns-then-written-limit : goal.returns-then-written-limit
returns-then-written-limit g c start =
    let turned = rw c.in-Unmappable.is at (c.loop-outcome.invariant start) in
    let room = rw c.in-Html.is at c.requires.room in
    let same = same_length start.writes.adds in
    let put = c.put_reference-written.ensures in
    rw c.in-Html.is (stop_after g.C.Chars.units_of 10 (omega (arith, room, same)) start.counted
    (from_start start 10 turned)
    (adds_reference _ put.len put.onto put.bound (reference_fits start room turned))
    (omega (arith, c.if-written-limit.true, same)) c.full_result.ensures
    c.unread-then-written-limit.ensures)

pub encode_on-outcome-requires-in-loop-outcome : goal.encode_on-outcome-requires-in-loop-outcome
encode_on-outcome-requires-in-loop-outcome g c = record {
  begun = begins_here c.args.begun.last _ _ _ c.unread-in-loop-outcome.ensures;
}

pub overflow_add-written-in-loop-outcome : goal.overflow_add-written-in-loop-outcome
overflow_add-written-in-loop-outcome g c =
    let encoded = c.encode_on-outcome-in-loop-outcome.ensures.call
    (begins_here c.args.begun.last _ _ _ c.unread-in-loop-outcome.ensures) in
    let fits = rw length-take at encoded.adds.fits in
    search rules

pub loop-outcome-smaller : goal.loop-outcome-smaller
loop-outcome-smaller g c =
    let encoded = c.encode_on-outcome-in-loop-outcome.ensures.call
    (begins_here c.args.begun.last _ _ _ c.unread-in-loop-outcome.ensures) in
    let fewer = fewer_turns _ encoded.call in
    rw c.in-Unmappable.is (omega (arith, fewer))

pub loop-outcome-preserved : goal.loop-outcome-preserved
loop-outcome-preserved g c start =
    let turned = rw c.in-Unmappable.is at (c.loop-outcome.invariant start) in
    let room = rw c.in-Html.is at c.requires.room in
    let put = c.put_reference-written.ensures in
    turn_after turned
    (adds_reference _ put.len put.onto put.bound (reference_fits start room turned))
    c.if-written-limit.false c.encode_on-outcome-in-loop-outcome.ensures.lawful
    (c.encode_on-outcome-in-loop-outcome.ensures.call
    (begins_here c.args.begun.last _ _ _ c.unread-in-loop-outcome.ensures))
