use Rattle.std.proofs.Common.{◌≡◌, ◌+◌, ◌*◌, ◌<◌, ◌++◌, length, get_or, take, arith, ap, ◌∙◌}
use Rattle.std.proofs.lemmas.List.{take_all}
use Rattle.enc_writer.specs.Utf16.{bytes_of_units}
use Rattle.enc_writer.proofs.Utf16Lemmas.{bytes_of_units-more, pair_of, stored_pair}
use Rattle.enc_writer.proofs.utf16_units.store_units.Goals as goal

pub loop-i-preserved : goal.loop-i-preserved
loop-i-preserved c =
    let done = c.loop-i.i in
    let at = c.args.held + 2 * done in
    let bytes = c.bytes_of_unit-bytes.result in
    let front = take c.args.held c.args.output.now in
    let within : at + 1 < length c.loop-i.output = omega arith in
    let shorter : c.args.held + 2 * (done + 1) ≡ at + 2 = omega arith in
    rw shorter
    (stored_pair c.loop-i.output at (get_or bytes 0 0) (get_or bytes 1 0) within
    ∙ ap (λ z. z ++ pair_of bytes) c.loop-i.invariant
    ∙ bytes_of_units-more c.args.order c.args.units.now done c.loop-i-test.true front bytes
    c.bytes_of_unit-bytes.ensures)

pub returns : goal.returns
returns c =
    let units = c.args.units.now in
    let all : c.loop-i.i ≡ length units = omega arith in
    record {
      stored = rw all at c.loop-i.invariant
          ∙ ap (λ us. take c.args.held c.args.output.now ++ bytes_of_units c.args.order us)
          (take_all (length units) units (omega arith));
    }
