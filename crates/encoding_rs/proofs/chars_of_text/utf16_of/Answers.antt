use Rattle.std.proofs.Common.{◌∙◌, ◌++◌, ap}
use Rattle.encoding_rs.proofs.CharsOfTextLemmas.{none_converted, converts_one, all_converted}
use Rattle.encoding_rs.proofs.chars_of_text.utf16_of.Goals as goal

pub loop-c-init : goal.loop-c-init
loop-c-init c = rw (c.chars-rest.ensures.rest, c.new-units.ensures.items)
    (none_converted c.args.text.now c.utf8.text)

pub loop-c-preserved : goal.loop-c-preserved
loop-c-preserved c =
    let units = c.in_ok-extend_from_slice.ensures.items
    ∙ ap (λ x. c.loop-c.units.items ++ x) c.encode_utf16.ensures.value in
    converts_one c.in-Some.c c.loop-c.invariant c.in-Some.ensures.steps.0 units

pub returns : goal.returns
returns c = all_converted c.utf8.text c.loop-c.invariant c.in_default.ensures.steps.0.0
