use Rattle.std.proofs.Common.{subst}
use Rattle.std.proofs.lemmas.List.{take-take}
use Rattle.enc_utf8.specs.Pieces.{AreWrittenAsThemselves}
use Rattle.enc_output.proofs.PiecesLemmas.{ascii_pieces, own_pieces}
use Rattle.enc_output.proofs.unit_slice.append_own.Goals as goal

pub returns-then-has_ascii : goal.returns-then-has_ascii
returns-then-has_ascii g c =
    ascii_pieces (c.has_ascii.ensures c.if-has_ascii.true) c.append_ascii.ensures

pub returns : goal.returns
returns g c =
    let own = c.own_len-own.ensures in
    own_pieces _
    (subst (AreWrittenAsThemselves (g.P.Pieces.means c.args.pieces))
    (take-take _ 16 c.args.src.now own.bound) own.own)
    c.append_ascii-2.ensures
