use Rattle.std.proofs.Common.{◌+◌, ◌-◌, length}
use Rattle.std.specs.Char.Escape.{encode_utf16}
use Rattle.enc_output.specs.Output.{buffer_output}
use Rattle.enc_output.proofs.GatherLemmas.{Gathered}
use Rattle.enc_output.proofs.single_bytes.SingleBytesGather.gather_units.Given as goal

abbrev pub invariant-loop-read : goal.invariant-loop-read
invariant-loop-read g l =
    Gathered encode_utf16 (g.P.Pieces.means l.fn.self.pieces)
    (buffer_output l.fn.out.len l.fn.out.units)
    (buffer_output l.out.len l.out.units) l.src (l.most + 16) l.read

abbrev pub decreases-loop-read : goal.decreases-loop-read
decreases-loop-read g l = length l.src - l.read
