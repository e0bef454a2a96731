use Rattle.std.proofs.Common.{arith}
use Rattle.enc_utf8.specs.Pieces.{IsWrittenAsItself}
use Rattle.enc_utf8.proofs.LaneLemmas.{all_fewer}
use Rattle.enc_input.proofs.Utf16MappedLemmas.{own_lanes, low_lanes_long}
use Rattle.enc_input.proofs.WriteLoopLemmas.{front_stored, all_stored}
use Rattle.enc_input.proofs.utf16_mapped.put_ascii.Goals as goal

pub returns-then-len-lt16 : goal.returns-then-len-lt16
returns-then-len-lt16 g c =
    front_stored c.args.at _ _
    (own_lanes _ _ c.args.src.now _ (omega (arith, c.min-len.ensures))
    c.ascii_units.ensures.bound c.low_bytes-lanes.ensures c.ascii_units.ensures.ascii)
    (all_fewer (IsWrittenAsItself (g.M.Mapping.means c.args.mapping)) _ _ _ (omega
    (arith, c.min-len.ensures)) c.ascii_len.ensures.ascii)
    (omega (arith, c.requires.sixteen, c.min-len.ensures, c.ascii_units.ensures.bound))
    (omega (arith, c.requires.room, c.min-len.ensures, c.ascii_units.ensures.bound))
    c.put_lanes.ensures

pub returns : goal.returns
returns g c =
    let fit = c.requires.sixteen in
    all_stored c.args.src.now c.args.dst.now c.args.at 16 _
    (low_lanes_long c.args.src.now _ c.low_bytes-lanes.ensures fit) fit c.requires.room
    (own_lanes 16 _ c.args.src.now _ (omega (arith, c.min-len.ensures))
    c.ascii_units.ensures.bound c.low_bytes-lanes.ensures c.ascii_units.ensures.ascii)
    (all_fewer (IsWrittenAsItself (g.M.Mapping.means c.args.mapping)) 16 _ _ (omega
    (arith, c.min-len.ensures)) c.ascii_len.ensures.ascii)
