use Rattle.std.proofs.Common.{arith, drop, refl}
use Rattle.enc_output.proofs.PiecesLemmas.{then_rest}
use Rattle.enc_utf8.proofs.LengthLemmas.{lengths}
use Rattle.enc_output.proofs.PairsLemmas.{places_after}
use Rattle.enc_output.proofs.pairs.store_eight.Goals as goal

pub returns-clause-puts : goal.returns-clause-puts
returns-clause-puts g c src long are =
    let first = c.store_four-first.result.0 in
    let few = c.store_four-first.ensures.read in
    then_rest refl
    (c.store_four-first.ensures.puts src (omega (arith, long)) (λ i l. are i (omega arith)))
    (c.store_four-second.ensures.puts (drop first src) (omega (arith, long, few, lengths))
    (places_after (g.P.PairPieces.stands_for c.args.pieces) c.args.places.now c.args.leads src
    first few are))
