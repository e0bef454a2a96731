use Rattle.std.proofs.Common.{◌-◌, length}
use Rattle.std.specs.Char.Escape.{encode_utf16}
use Rattle.enc_output.specs.Output.{borrowed_output}
use Rattle.enc_output.specs.PieceRuns.{PutsPieces}
use Rattle.enc_utf8.specs.Pieces.{IsUtf8Char}
use Rattle.enc_output.proofs.utf16_slice.Utf16Slice.append_narrows.Given as goal

abbrev pub invariant-loop-at : goal.invariant-loop-at
invariant-loop-at l =
    PutsPieces encode_utf16 IsUtf8Char
    (borrowed_output l.initial.self.len l.initial.self.dst)
    (borrowed_output l.self.len l.self.dst) l.src l.at

abbrev pub decreases-loop-at : goal.decreases-loop-at
decreases-loop-at l = length l.src - l.at
