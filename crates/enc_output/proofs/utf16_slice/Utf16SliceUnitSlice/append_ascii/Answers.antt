use Rattle.std.proofs.Common.{arith}
use Rattle.enc_utf8.proofs.UnitsLemmas.{ascii_units_16}
use Rattle.enc_output.proofs.Utf8SliceLemmas.{puts_ascii}
use Rattle.enc_output.proofs.utf16_slice.Utf16SliceUnitSlice.append_ascii.Goals as goal

pub returns : goal.returns
returns c =
    let widened = c.widen_ascii-len.ensures in
    puts_ascii c.args.self.now.dst.now _ c.args.self.now.dst.ghost_name ascii_units_16 (omega arith)
    widened.read widened.room
    widened.ascii widened.ends widened.stored
