use Rattle.std.proofs.Common.{ℕ, ◌≤◌, arith}
use Rattle.std.proofs.lemmas.List.{length-take}
use Rattle.recode_part.proofs.BoundLemmas.{bytes_within-pulled}
use Rattle.recode_part.proofs.bounded.BoundedSource.pull.Goals as goal

pub returns-clause-bytes : goal.returns-clause-bytes
returns-clause-bytes g c =
    let few : c.in_ok-n.n ≤ c.in-Some.left = omega (
      arith,
      length-take {A = ℕ},
      c.in_ok-n.ensures.bound,
      c.pull-2.auto.buf,
      c.within-most.ensures,
    ) in
    rw c.in-Some.is
    (bytes_within-pulled c.in-Some.left c.in_ok-n.n _ _ c.pull-2.new.buf _ c.in_ok-n.ensures.bound
    few c.in_ok-n.ensures.bytes)
