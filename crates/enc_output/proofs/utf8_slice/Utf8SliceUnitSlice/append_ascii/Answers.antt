use Rattle.std.proofs.Common.{arith}
use Rattle.enc_utf8.proofs.UnitsLemmas.{ascii_units}
use Rattle.enc_output.proofs.Utf8SliceLemmas.{puts_ascii}
use Rattle.enc_output.proofs.utf8_slice.Utf8SliceUnitSlice.append_ascii.Goals as goal

pub returns : goal.returns
returns c =
    let copied = c.copy_ascii-len.ensures in
    puts_ascii c.args.self.now.dst.now _ c.args.self.now.dst.ghost_name ascii_units (omega arith)
    copied.read copied.room
    copied.ascii copied.ends copied.copied
