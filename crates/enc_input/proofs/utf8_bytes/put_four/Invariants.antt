use Rattle.std.proofs.Common.{◌≡◌, ◌-◌, ◌*◌, ◌≤◌, List, ℕ, length, drop, chars, IsUtf8}
use Rattle.enc_input.specs.Mappings.{WritesFront}
use Rattle.enc_utf8.specs.Ends.{end_after}
use Rattle.enc_input.specs.Utf8Bytes.{AreLanesOf}
use Rattle.enc_input.proofs.utf8_bytes.put_four.Given as goal

abbrev pub invariant-loop-count : goal.invariant-loop-count
invariant-loop-count g l =
    (l.count ≤ 4) × (l.read ≡ end_after l.ends l.count) × (l.count ≤ l.read)
    × (l.read ≤ 2 * l.count) × (length l.dst ≡ length l.fn.dst)
    × ((text : List ℕ) → 16 ≤ length text → AreLanesOf text l.lanes.units l.lanes.leads
    → IsUtf8 (drop l.place text)
    → WritesFront chars IsUtf8 (g.M.Mapping.means l.mapping) (drop l.place text) l.fn.dst l.dst
    l.at l.read l.count)

abbrev pub decreases-loop-count : goal.decreases-loop-count
decreases-loop-count g l = 4 - l.count
