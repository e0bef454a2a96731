use Rattle.std.proofs.Common.{eqb, eqb-true, not}
use Rattle.std.proofs.lemmas.Bool.{not-false}
use Rattle.enc_utf8.proofs.Lanes.{compared, none_set}
use Rattle.enc_utf8.proofs.utf8.are_none.Goals as goal

pub returns : goal.returns
returns c none k below =
    let differ = compared (λ a b. not (eqb a b)) 0 c.args.faults c.fits-faults.0 in
    eqb-true _ 0 (not-false _ (none_set _ differ k below none))
