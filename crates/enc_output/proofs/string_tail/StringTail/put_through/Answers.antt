use Rattle.std.proofs.Common.{refl, ap, arith, rules, length}
use Rattle.enc_utf8.proofs.LengthLemmas.{lengths}
use Rattle.enc_output.proofs.PiecesLemmas.{then_rest, puts_gathered}
use Rattle.enc_output.proofs.string_tail.StringTail.put_through.Goals as goal

pub loop-front-preserved : goal.loop-front-preserved
loop-front-preserved g c =
    then_rest c.split_at.ensures.back c.loop-front.invariant
    (puts_gathered c.append.ensures
    (omega (arith, lengths, ap length c.new-out.ensures.now, c.min-most.ensures))
    c.put_pieces-read.ensures (rw c.new-out.ensures.len refl) (search rules))
