use Rattle.std.proofs.Common.{arith}
use Rattle.enc_utf8.proofs.LaneLemmas.{unshifted}
use Rattle.enc_utf8.proofs.validity.unshifted_len.Goals as goal

pub returns-clause-ascii : goal.returns-clause-ascii
returns-clause-ascii c = unshifted c.args.lanes _ _ _ _ _ (omega
    (arith, c.min.ensures, c.min-2.ensures, c.min-3.ensures)) (omega
    (arith, c.min.ensures, c.min-2.ensures, c.min-3.ensures))
    (omega (arith, c.min-2.ensures, c.min-3.ensures)) (omega (arith, c.min-3.ensures))
    c.ascii_in.ensures.ascii
    c.len_before-shift_out.ensures.none c.len_before-shift_in.ensures.none
    c.len_before-escape.ensures.none
