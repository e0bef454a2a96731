use Rattle.std.proofs.Common.{◌≡◌, ◌+◌, ◌-◌, ◌≤◌, length, take}
use Rattle.enc_input.specs.Utf16Text.{AreUtf8OfUnits}
use Rattle.enc_input.proofs.utf16_text.gather_text.Given as goal

abbrev pub invariant-turns : goal.invariant-turns
invariant-turns l =
    (l.limit ≤ length l.buffer) × (l.written ≤ l.limit)
    × (length l.buffer ≡ length l.initial.buffer)
    × AreUtf8OfUnits l.src l.read (take l.written l.buffer)

abbrev pub decreases-turns : goal.decreases-turns
decreases-turns l = length l.src - l.read

abbrev pub invariant-singles : goal.invariant-singles
invariant-singles l =
    (l.limit ≤ length l.buffer) × (l.written + 4 ≤ l.limit)
    × (length l.buffer ≡ length l.fn.buffer) × (l.initial.read ≤ l.read)
    × AreUtf8OfUnits l.src l.read (take l.written l.buffer)

abbrev pub decreases-singles : goal.decreases-singles
decreases-singles l = length l.src - l.read
