use Rattle.std.proofs.Common.{◌≡◌, [], ◌++◌, length}
use Rattle.enc_decoder.specs.Pending.{bytes_of_pending}
use Rattle.enc_decoder.specs.Prefixes.{AreIncomplete}
use Rattle.enc_decoder.proofs.prefix_codec.shown_first.Given as goal

abbrev pub invariant-loop-byte : goal.invariant-loop-byte
invariant-loop-byte g l =
    (bytes_of_pending (g.C.PrefixCodec.waiting l.fn.codec)
    ≡ bytes_of_pending l.front ++ bytes_of_pending l.rest)
    × AreIncomplete (g.C.PrefixCodec.prefix l.fn.codec) [] (bytes_of_pending l.front)

abbrev pub decreases-loop-byte : goal.decreases-loop-byte
decreases-loop-byte g l = length (bytes_of_pending l.rest)
