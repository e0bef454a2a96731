use Rattle.std.proofs.Common.{◌≡◌, ◌+◌, ◌-◌, ◌/◌, ◌%◌, [], ◌∷◌, drop, ap, ◌∙◌, arith, length-set, refl, sym, true}
use Rattle.std.proofs.Common.{drop_of_length-le}
use Rattle.std.specs.Fmt.{digits_onto, digit_glyph}
use Rattle.enc_encoder.proofs.ReferenceLemmas.{put_before}
use Rattle.enc_writer.proofs.HexLemmas.{hex_places_fewer, digits_onto-last, hex_digits_before, hex_front}
use Rattle.enc_writer.proofs.unmappable_policy.write_hex_at_end.Goals as goal

pub loop-rest-init : goal.loop-rest-init
loop-rest-init c =
    let char_range = c.ranges.c in
    let long = c.told-bytes in
    let none_after : drop 10 c.args.bytes.now ≡ [] =
    drop_of_length-le c.args.bytes.now {i = 10} (omega arith) in
    record {
      low = omega arith;
      high = omega arith;
      few = omega (arith, char_range.1.1);
      long = length-set c.args.bytes.now 9 0x3B ∙ long;
      written =
          ap (digits_onto 64 16 true c.args.c)
          (put_before c.args.bytes.now 9 10 0x3B refl (omega arith)
          ∙ ap (λ t. 0x3B ∷ t) none_after)
          ∙ hex_digits_before c.args.c (0x3B ∷ []);
    }

pub loop-rest-preserved : goal.loop-rest-preserved
loop-rest-preserved c =
    let turn = c.loop-rest in
    let invariant = turn.invariant in
    let fewer = hex_places_fewer (turn.at - 3) turn.rest c.loop-rest-test.true invariant.few in
    let places : turn.at - 1 - 3 ≡ turn.at - 3 - 1 = omega arith in
    let count : turn.at - 1 + 55 ≡ turn.at + 55 - 1 = omega (arith, fewer.0) in
    let glyph = digit_glyph true (turn.rest % 16) in
    record {
      low = omega (arith, fewer.0);
      high = omega (arith, invariant.high);
      few = rw places fewer.1;
      long = length-set turn.bytes (turn.at - 1) c.hex_digit.result ∙ invariant.long;
      written = rw c.hex_digit.ensures
          (ap (λ t. digits_onto (turn.at - 1 + 55) 16 true (turn.rest / 16) t)
          (put_before turn.bytes (turn.at - 1) turn.at glyph
          (omega (arith, invariant.low))
          (omega (arith, invariant.high, invariant.long)))
          ∙ ap (λ n. digits_onto n 16 true (turn.rest / 16) (glyph ∷ drop turn.at turn.bytes)) count
          ∙ sym (digits_onto-last (turn.at + 55) turn.rest (drop turn.at turn.bytes) (omega arith)
          c.loop-rest-test.true)
          ∙ invariant.written);
    }

pub returns-clause-reference : goal.returns-clause-reference
returns-clause-reference c =
    let turn = c.loop-rest in
    let invariant = turn.invariant in
    rw c.hex_digit-2.ensures
    (hex_front (turn.at + 55) turn.bytes _ turn.at turn.rest (omega arith) invariant.low
    (omega (arith, invariant.high, invariant.long))
    (omega (arith, c.loop-rest-test.false)) invariant.written)
