use Rattle.std.proofs.Common.{arith, refl}
use Rattle.enc_utf8.proofs.LengthLemmas.{lengths}
use Rattle.enc_utf8.proofs.UnitsLemmas.{ascii_units}
use Rattle.enc_output.proofs.PiecesLemmas.{kept_pieces, puts_wider}
use Rattle.enc_output.proofs.gather.store_own.Goals as goal

pub returns-clause-puts : goal.returns-clause-puts
returns-clause-puts g c =
    let own = c.own_len-own.ensures in
    puts_wider 16 refl
    (kept_pieces ascii_units (omega (arith, lengths, own.bound)) own.own
    (omega (arith, own.bound, c.requires.room)) c.store_front.ensures.stored)
