use Rattle.std.proofs.Common.{ℕ, ◌∷◌, [], arith, subst}
use Rattle.enc_input.proofs.Utf16MappedLemmas.{unit_written, unclamped}
use Rattle.enc_input.proofs.ways.ByUnitTurns.put_utf16_char.Goals as goal

pub returns-then-byte-gt0 : goal.returns-then-byte-gt0
returns-then-byte-gt0 g c =
    let byte = c.unit_byte-byte.result in
    let found = c.unit_byte-byte.ensures in
    let own = unclamped _ _ byte c.min.ensures (omega arith) found.last in
    unit_written byte c.requires.some own.0
    (subst (λ (u : ℕ). g.M.Mapping.means c.args.mapping (byte ∷ []) u) own.1
    (found.means (omega arith))) c.requires.room
