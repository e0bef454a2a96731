use Rattle.std.proofs.Common.{◌-◌, length}
use Rattle.std.specs.Char.{encode_utf8}
use Rattle.enc_output.specs.Output.{borrowed_output}
use Rattle.enc_output.specs.PieceRuns.{PutsPieces}
use Rattle.enc_output.proofs.utf8_slice.Utf8Slice.append_turns.Given as goal

abbrev pub invariant-loop-gathered : goal.invariant-loop-gathered
invariant-loop-gathered g l =
    PutsPieces encode_utf8 (g.G.Gather.means l.by)
    (borrowed_output l.fn.self.len l.fn.self.dst)
    (borrowed_output l.self.len l.self.dst) l.src l.at

abbrev pub decreases-loop-gathered : goal.decreases-loop-gathered
decreases-loop-gathered g l = length l.src - l.at
