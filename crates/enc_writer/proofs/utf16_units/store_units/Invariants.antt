use Rattle.std.proofs.Common.{◌≡◌, ◌+◌, ◌*◌, ◌++◌, take}
use Rattle.enc_writer.specs.Utf16.{bytes_of_units}
use Rattle.enc_writer.proofs.utf16_units.store_units.Given as goal

abbrev pub invariant-loop-i : goal.invariant-loop-i
invariant-loop-i l = take (l.held + 2 * l.i) l.output
    ≡ take l.held l.fn.output ++ bytes_of_units l.order (take l.i l.units)
