use Rattle.std.proofs.Common.{ℕ, ◌∷◌, [], arith, subst}
use Rattle.enc_input.proofs.MappingLemmas.{same_length}
use Rattle.enc_input.proofs.Utf16MappedLemmas.{unit_further, place_is, unclamped}
use Rattle.enc_input.proofs.WriteLoopLemmas.{writes_none}
use Rattle.enc_input.proofs.utf16_mapped.put_units.Goals as goal

pub loop-count-init : goal.loop-count-init
loop-count-init g c = (omega arith, writes_none (omega arith) tt)

pub unit_byte-byte-requires : goal.unit_byte-byte-requires
unit_byte-byte-requires g c =
    let place = place_is c.args.src.now _ c.loop-count.count c.clamped-places.ensures
    (omega arith) in
    record { bound = omega (arith, place) }

pub loop-count-preserved : goal.loop-count-preserved
loop-count-preserved g c =
    let found = c.unit_byte-byte.ensures in
    let place = place_is c.args.src.now _ c.loop-count.count c.clamped-places.ensures
    (omega arith) in
    let own = unclamped _ _ c.unit_byte-byte.result place (omega arith) found.last in
    let long = same_length c.loop-count.invariant.1.writes in (
      omega arith,
      unit_further c.unit_byte-byte.result c.loop-count.invariant.1 (omega arith) own.0
          (subst (λ (u : ℕ). g.M.Mapping.means c.args.mapping (c.unit_byte-byte.result ∷ []) u)
          own.1 (found.means (omega arith))) (omega (arith, long)),
    )
