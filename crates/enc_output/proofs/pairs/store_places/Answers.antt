use Rattle.std.proofs.Common.{◌≡◌, ◌∙◌, ◌+◌, ◌%◌, ◌/◌, ◌^◌, bit_and, ap, arith}
use Rattle.std.proofs.lemmas.Nat.{and_mask, shr-shr}
use Rattle.enc_output.proofs.PairsLemmas.{places_of_rest, puts_stored, some_byte}
use Rattle.enc_output.proofs.PiecesLemmas.{same_then}
use Rattle.enc_output.proofs.pairs.store_places.Goals as goal

pub loop-read-preserved : goal.loop-read-preserved
loop-read-preserved g c =
    let invariant = c.loop-read.invariant in
    let read = c.loop-read.read in
    let leads = c.places-found.result.leads in
    let src = c.args.src.now in
    let stored = c.store_place.ensures in
    let more : bit_and c.loop-read.leads 1 ≡ leads / 2 ^ read % 2 =
    and_mask c.loop-read.leads 1 ∙ ap (λ m. m % 2) invariant.2 in
    let are = places_of_rest (g.P.PairPieces.stands_for c.args.pieces) c.places-found.result.places
    leads src 0 c.places-found.ensures in (
      c.if-len-end.false,
      omega (arith, more),
      ap (λ m. m / 2 ^ (1 + bit_and c.loop-read.leads 1)) invariant.2
          ∙ shr-shr leads read (1 + bit_and c.loop-read.leads 1)
          ∙ ap (λ n. leads / 2 ^ n) (omega arith),
      omega (arith, invariant.3, stored.bound),
      puts_stored src leads read _ (ap (λ n. read + 1 + n) more) (omega (arith, c.requires.long))
          invariant.4
          (stored.stored c.if-not-store_place.false _ (are read c.loop-read-test.true)
          (some_byte _ _ _)),
    )

pub returns-then-len-end-clause-puts : goal.returns-then-len-end-clause-puts
returns-then-len-end-clause-puts g c =
    let so_far = c.loop-read.invariant.4 in
    elim c.then-len-end.branch [
      | goal.then-len-end-via-then-len-end w ↦ same_then (ap g.B.UnitBuffer.output w.out-is) so_far
      | goal.then-len-end-via-else-len-end+then-not-store_place w ↦
          same_then (ap g.B.UnitBuffer.output w.out-is
          ∙ w.store_place.ensures.unchanged w.if-not-store_place.true) so_far
    ]
