use Rattle.std.proofs.Common.{arith, refl, ap, take, drop-cons}
use Rattle.std.proofs.lemmas.List.{take-take}
use Rattle.enc_utf8.proofs.LengthLemmas.{lengths}
use Rattle.enc_utf8.proofs.UnitsLemmas.{ascii_units}
use Rattle.enc_output.proofs.PiecesLemmas.{kept_pieces, own_ascii, then_rest}
use Rattle.enc_output.proofs.GatherLemmas.{word_put}
use Rattle.enc_output.proofs.single_bytes.store_hop.Goals as goal

pub returns-then-word-eq0-clause-puts : goal.returns-then-word-eq0-clause-puts
returns-then-word-eq0-clause-puts g c =
    kept_pieces ascii_units (omega arith)
    (own_ascii (g.P.Pieces.means c.args.pieces) _ c.requires.means c.requires.are_ascii)
    (omega (arith, c.requires.room))
    (rw (take-take c.args.ascii 64 c.args.src.now (omega arith)) at c.store_long.ensures.stored)

pub returns-clause-puts : goal.returns-clause-puts
returns-clause-puts g c =
    let kept = kept_pieces ascii_units (omega arith)
    (own_ascii (g.P.Pieces.means c.args.pieces) _ c.requires.means c.requires.are_ascii)
    (omega (arith, c.requires.room))
    (rw (take-take c.args.ascii 64 c.args.src.now (omega arith)) at c.store_long.ensures.stored) in
    then_rest refl kept
    (word_put (ap (take 1) (drop-cons c.args.src.now c.args.ascii 0 (omega arith)))
    (c.word-word.ensures (omega arith)) (omega arith) (omega (arith, lengths))
    (omega (arith, c.requires.room, c.store_long.ensures.bound)) c.store_word.ensures.stored)
