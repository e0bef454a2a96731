use Rattle.std.proofs.Common.{◌≡◌, ◌+◌, ◌-◌, ◌≤◌, length, chars, IsUtf8}
use Rattle.enc_input.specs.Mappings.{WritesFront}
use Rattle.enc_input.proofs.utf8_bytes.put_turns.Given as goal

abbrev pub invariant-loop-read : goal.invariant-loop-read
invariant-loop-read g l =
    (l.at + l.written ≤ length l.dst) × (length l.dst ≡ length l.fn.dst)
    × WritesFront chars IsUtf8 (g.M.Mapping.means l.mapping) l.src l.fn.dst l.dst l.at l.read
    l.written

abbrev pub decreases-loop-read : goal.decreases-loop-read
decreases-loop-read g l = length l.src - l.read
