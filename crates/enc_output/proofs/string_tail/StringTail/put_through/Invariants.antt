use Rattle.std.proofs.Common.{◌-◌, length}
use Rattle.std.specs.Char.{encode_utf8}
use Rattle.std.specs.String.{string_bytes}
use Rattle.enc_output.specs.Output.{string_output}
use Rattle.enc_output.specs.PieceRuns.{PutsPieces}
use Rattle.enc_output.proofs.string_tail.StringTail.put_through.Given as goal

abbrev pub invariant-loop-front : goal.invariant-loop-front
invariant-loop-front g l =
    PutsPieces encode_utf8 (g.R.Gather.means l.run)
    (string_output (string_bytes l.initial.self.text.now) l.initial.self.room
    l.initial.self.text.ghost_name)
    (string_output (string_bytes l.self.text.now) l.self.room l.self.text.ghost_name) l.src l.at

abbrev pub decreases-loop-front : goal.decreases-loop-front
decreases-loop-front g l = length l.src - l.at
