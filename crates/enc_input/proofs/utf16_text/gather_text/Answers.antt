use Rattle.std.proofs.Common.{◌∙◌, ◌++◌, ap, arith, take}
use Rattle.enc_input.proofs.Utf16TextLemmas.{sixteen_units, text_then_units, text_one, text_stored}
use Rattle.enc_utf8.proofs.LengthLemmas.{rest_is}
use Rattle.enc_input.proofs.utf16_text.gather_text.Goals as goal

pub turns-preserved-then-count-eq16 : goal.turns-preserved-then-count-eq16
turns-preserved-then-count-eq16 c =
    let invariant = c.turns.invariant in
    let stored = c.store_sixteen_scalars-count.ensures in (
      omega (arith, stored.len, invariant.0),
      omega (arith, stored.bound),
      stored.len ∙ invariant.2,
      text_then_units _ invariant.3 stored.few (omega arith)
          (sixteen_units c.turns.read c.args.src.now) stored.scalars stored.stored,
    )

pub singles-init : goal.singles-init
singles-init c =
    let invariant = c.turns.invariant in
    let stored = c.store_sixteen_scalars-count.ensures in (
      omega (arith, stored.len, invariant.0),
      omega (arith, stored.bound),
      stored.len ∙ invariant.2,
      omega arith,
      text_then_units _ invariant.3 stored.few (omega arith)
          (sixteen_units c.turns.read c.args.src.now) stored.scalars stored.stored,
    )

pub singles-preserved : goal.singles-preserved
singles-preserved c =
    let invariant = c.singles.invariant in
    let stored = c.store_text-written.ensures in
    let first = rw (rest_is c.singles.read c.args.src.now) at c.in-Some.ensures in
    let text = ap (λ k. take k c.store_text-written.new.buffer) stored.end ∙ stored.stored
    ∙ ap (λ z. take c.singles.written c.singles.buffer ++ z) c.utf8_of.ensures.bytes in (
      omega (arith, stored.len, invariant.0),
      omega (arith, stored.end, c.utf8_of.ensures.bound),
      stored.len ∙ invariant.2,
      omega (arith, invariant.3),
      text_stored invariant.4 (text_one first c.utf8_of.ensures.scalar) text,
    )

pub turns-preserved : goal.turns-preserved
turns-preserved c =
    let invariant = c.singles.invariant in
    let stored = c.store_text-written.ensures in
    let first = rw (rest_is c.singles.read c.args.src.now) at c.in-Some.ensures in
    let text = ap (λ k. take k c.store_text-written.new.buffer) stored.end ∙ stored.stored
    ∙ ap (λ z. take c.singles.written c.singles.buffer ++ z) c.utf8_of.ensures.bytes in (
      omega (arith, stored.len, invariant.0),
      omega (arith, stored.end, c.utf8_of.ensures.bound, invariant.1),
      stored.len ∙ invariant.2,
      text_stored invariant.4 (text_one first c.utf8_of.ensures.scalar) text,
    )
