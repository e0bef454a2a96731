use Rattle.std.proofs.Common.{arith, drop, refl}
use Rattle.enc_output.proofs.PiecesLemmas.{ascii_pieces, puts_wider, then_rest, one_char}
use Rattle.enc_utf8.proofs.LengthLemmas.{lengths}
use Rattle.enc_output.proofs.PairsLemmas.{places_of_rest}
use Rattle.enc_output.proofs.GatherLemmas.{gathered_none, gathered_then}
use Rattle.enc_output.proofs.pairs.gather_pairs.Goals as goal

pub loop-pieces-init : goal.loop-pieces-init
loop-pieces-init g c = gathered_none (omega (arith, c.capacity.ensures, c.capacity-most.ensures))

pub loop-pieces-preserved-then-are_ascii : goal.loop-pieces-preserved-then-are_ascii
loop-pieces-preserved-then-are_ascii g c =
    gathered_then c.loop-pieces.invariant
    (puts_wider 16 refl
    (ascii_pieces (c.has_ascii-has_ascii.ensures c.if-has_ascii.true) c.store_sixteen.ensures))

pub store_eight-more-requires-clause-places : goal.store_eight-more-requires-clause-places
store_eight-more-requires-clause-places g c i l = (_, c.places-found.ensures i l)

pub returns-in_default : goal.returns-in_default
returns-in_default g c =
    then_rest refl c.loop-pieces.invariant.puts
    (c.store_eight-more.ensures.puts (drop c.loop-pieces.read c.args.src.now)
    (omega (arith, lengths))
    (places_of_rest (g.P.PairPieces.stands_for c.args.pieces) c.places-found.result.places
    c.places-found.result.leads c.args.src.now c.loop-pieces.read c.places-found.ensures))

pub loop-pieces-preserved-then-more-gt0 : goal.loop-pieces-preserved-then-more-gt0
loop-pieces-preserved-then-more-gt0 g c =
    gathered_then c.loop-pieces.invariant
    (c.store_eight-more.ensures.puts (drop c.loop-pieces.read c.args.src.now)
    (omega (arith, lengths))
    (places_of_rest (g.P.PairPieces.stands_for c.args.pieces) c.places-found.result.places
    c.places-found.result.leads c.args.src.now c.loop-pieces.read c.places-found.ensures))

pub loop-pieces-preserved : goal.loop-pieces-preserved
loop-pieces-preserved g c =
    let stored = c.store_char.ensures in
    let found = c.in-Some.ensures in
    gathered_then (gathered_then c.loop-pieces.invariant
    (c.store_eight-more.ensures.puts (drop c.loop-pieces.read c.args.src.now)
    (omega (arith, lengths))
    (places_of_rest (g.P.PairPieces.stands_for c.args.pieces) c.places-found.result.places
    c.places-found.result.leads c.args.src.now c.loop-pieces.read c.places-found.ensures)))
    (one_char _ found.some found.within stored.scalar found.means stored.fits stored.written)
