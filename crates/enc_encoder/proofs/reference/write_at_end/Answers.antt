use Rattle.std.proofs.Common.{◌≡◌, ◌+◌, ◌-◌, ◌/◌, ◌%◌, ◌++◌, [], ◌∷◌, drop, decimal, refl, ap, ◌∙◌, arith, length-set}
use Rattle.std.proofs.Common.{drop_of_length-le}
use Rattle.enc_encoder.proofs.ReferenceLemmas.{put_before, places_fewer, last_digit, front}
use Rattle.enc_encoder.proofs.reference.write_at_end.Goals as goal

pub loop-rest-init : goal.loop-rest-init
loop-rest-init c =
    let char_range = c.ranges.c in
    let long = c.told-bytes in
    let none_after : drop 10 c.args.bytes.now ≡ [] =
    drop_of_length-le c.args.bytes.now {i = 10} (omega arith) in
    record {
      low = omega arith;
      high = omega arith;
      few = omega (arith, char_range.1.1);
      long = length-set c.args.bytes.now 9 0x3B ∙ long;
      written =
          ap (λ t. decimal c.args.c ++ t)
          (put_before c.args.bytes.now 9 10 0x3B refl (omega arith)
          ∙ ap (λ t. 0x3B ∷ t) none_after);
    }

pub loop-rest-preserved : goal.loop-rest-preserved
loop-rest-preserved c =
    let turn = c.loop-rest in
    let invariant = turn.invariant in
    let fewer = places_fewer (turn.at - 2) turn.rest c.loop-rest-test.true invariant.few in
    let places : turn.at - 1 - 2 ≡ turn.at - 2 - 1 = omega arith in
    record {
      low = omega (arith, fewer.0);
      high = omega (arith, invariant.high);
      few = rw places fewer.1;
      long = length-set turn.bytes (turn.at - 1) (48 + turn.rest % 10) ∙ invariant.long;
      written =
          ap (λ t. decimal (turn.rest / 10) ++ t)
          (put_before turn.bytes (turn.at - 1) turn.at (48 + turn.rest % 10)
          (omega (arith, invariant.low))
          (omega (arith, invariant.high, invariant.long)))
          ∙ last_digit turn.rest (drop turn.at turn.bytes) c.loop-rest-test.true
          (omega (arith, turn.auto.rest-fits.fits))
          ∙ invariant.written;
    }

pub returns-clause-reference : goal.returns-clause-reference
returns-clause-reference c =
    let turn = c.loop-rest in
    let invariant = turn.invariant in
    front turn.bytes _ turn.at turn.rest invariant.low
    (omega (arith, invariant.high, invariant.long))
    (omega (arith, c.loop-rest-test.false)) invariant.written
