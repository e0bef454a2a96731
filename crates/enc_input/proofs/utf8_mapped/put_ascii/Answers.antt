use Rattle.std.proofs.Common.{arith}
use Rattle.std.proofs.lemmas.List.{length-take-le, take-take}
use Rattle.enc_utf8.specs.Pieces.{IsWrittenAsItself}
use Rattle.enc_utf8.proofs.LaneLemmas.{all_fewer}
use Rattle.enc_input.proofs.WriteLoopLemmas.{front_stored, all_stored}
use Rattle.enc_input.proofs.utf8_mapped.put_ascii.Goals as goal

pub returns-then-len-lt16 : goal.returns-then-len-lt16
returns-then-len-lt16 g c =
    front_stored c.args.at _ _
    (take-take _ 16 c.args.src.now c.ascii_len-len.ensures.bound) c.ascii_len-len.ensures.ascii
    (omega (arith, c.requires.sixteen, c.ascii_len-len.ensures.bound))
    (omega (arith, c.requires.room, c.ascii_len-len.ensures.bound)) c.put_lanes.ensures

pub returns : goal.returns
returns g c =
    all_stored c.args.src.now c.args.dst.now c.args.at 16 _
    (length-take-le 16 c.args.src.now c.requires.sixteen) c.requires.sixteen c.requires.room
    (take-take 16 16 c.args.src.now (omega arith))
    (all_fewer (IsWrittenAsItself (g.M.Mapping.means c.args.mapping)) 16 _ _ (omega arith)
    c.ascii_len-len.ensures.ascii)
