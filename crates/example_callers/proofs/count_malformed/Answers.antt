-- Each turn leaves fewer bytes, and counts what its call reports.
use Rattle.std.proofs.Common.{◌∙◌, ap, arith, length, true, length-drop}
use Rattle.enc_decoder.specs.Call.{reaches_end}
use Rattle.encoding_rs.specs.Decoding.{LeavesFewerBytes}
use Rattle.example_callers.proofs.MalformedCount.{counted_by, none_at_end}
use Rattle.example_callers.proofs.count_malformed.Goals as goal

pub returns-in-InputEmpty : goal.returns-in-InputEmpty
returns-in-InputEmpty c =
    let call = c.decode_to_utf8_without_replacement-result in
    let none = none_at_end _ call.ensures.call.decodes c.in-InputEmpty.is in
    omega (arith, c.pieces.invariant.counted, none)

pub pieces-preserved-in-OutputFull : goal.pieces-preserved-in-OutputFull
pieces-preserved-in-OutputFull c =
    let call = c.decode_to_utf8_without_replacement-result in
    let before = c.pieces.unread.now in
    let fewer : LeavesFewerBytes c.pieces.decoder call.new.self before call.result.1 =
    call.ensures.progress (λ e. let none : ⊥ = cc in none) (omega (arith, c.pieces.invariant.room))
    in
    let rest = ap length c.split_at.ensures.back in
    let now = counted_by call.ensures.call.decodes c.in-OutputFull.is c.split_at.ensures.back in
    record {
      going = call.ensures.ended ∙ ap (reaches_end true) c.in-OutputFull.is;
      room = omega arith;
      left = omega (arith, c.pieces.invariant.left, fewer, rest, length-drop call.result.1 before);
      counted = omega (arith, c.pieces.invariant.counted, now);
    }

pub pieces-preserved : goal.pieces-preserved
pieces-preserved c =
    let call = c.decode_to_utf8_without_replacement-result in
    let before = c.pieces.unread.now in
    let fewer : LeavesFewerBytes c.pieces.decoder call.new.self before call.result.1 =
    call.ensures.progress (λ e. let none : ⊥ = cc in none) (omega (arith, c.pieces.invariant.room))
    in
    let rest = ap length c.split_at.ensures.back in
    let now = counted_by call.ensures.call.decodes c.in-Malformed.is c.split_at.ensures.back in
    record {
      going = call.ensures.ended ∙ ap (reaches_end true) c.in-Malformed.is;
      room = omega arith;
      left = omega (arith, c.pieces.invariant.left, fewer, rest, length-drop call.result.1 before);
      counted = omega (arith, c.pieces.invariant.counted, now);
    }
