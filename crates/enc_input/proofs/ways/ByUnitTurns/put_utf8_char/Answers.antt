use Rattle.std.proofs.Common.{◌≡◌, ℕ, [], ◌∷◌, subst, arith}
use Rattle.enc_utf8.proofs.PutLemmas.{put_one}
use Rattle.enc_input.proofs.WriteLoopLemmas.{writes_one}
use Rattle.enc_input.proofs.ways.ByUnitTurns.put_utf8_char.Goals as goal

pub returns : goal.returns
returns g c =
    let byte = c.unit_byte-byte.result in
    let found = c.found_at.ensures in
    let two : c.found_at.result.width ≡ 2 = found.two (omega arith) in
    let first = rw two at found.first in
    let own : c.min.result ≡ c.found_at.result.c =
    omega (arith, c.min.ensures, found.short (omega arith)) in
    writes_one
    (subst (λ (u : ℕ). g.M.Mapping.means c.args.mapping (byte ∷ []) u) own
    (c.unit_byte-byte.ensures.means (omega arith)))
    first.within first.utf8 first.chars (put_one c.args.at byte c.args.dst.now c.requires.room)
