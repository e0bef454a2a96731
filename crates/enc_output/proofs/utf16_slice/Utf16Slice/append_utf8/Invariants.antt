use Rattle.std.proofs.Common.{◌-◌, length}
use Rattle.std.specs.Char.Escape.{encode_utf16}
use Rattle.enc_output.specs.Output.{borrowed_output}
use Rattle.enc_output.specs.PieceRuns.{PutsPieces}
use Rattle.enc_utf8.specs.Pieces.{IsUtf8Char}
use Rattle.enc_output.proofs.utf16_slice.Utf16Slice.append_utf8.Given as goal

abbrev pub invariant-loop-self : goal.invariant-loop-self
invariant-loop-self l =
    PutsPieces encode_utf16 IsUtf8Char
    (borrowed_output l.fn.self.len l.fn.self.dst)
    (borrowed_output l.self.len l.self.dst) l.src l.at

abbrev pub decreases-loop-self : goal.decreases-loop-self
decreases-loop-self l = length l.src - l.at
