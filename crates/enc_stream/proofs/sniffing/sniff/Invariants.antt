-- All bytes passed may begin a mark, and are held.
use Rattle.std.proofs.Common.{◌≤◌, ◌-◌, length, take}
use Rattle.enc_stream.specs.Sniffing.{ExtendsHeldMark}
use Rattle.enc_stream.proofs.sniffing.sniff.Given as goal

abbrev pub invariant-loop-len : goal.invariant-loop-len
invariant-loop-len l =
    record {
      within : l.len ≤ length l.src;
      reaches : ExtendsHeldMark l.fn.life l.held (take l.len l.src);
    }

-- the bytes ahead
abbrev pub decreases-loop-len : goal.decreases-loop-len
decreases-loop-len l = length l.src - l.len
