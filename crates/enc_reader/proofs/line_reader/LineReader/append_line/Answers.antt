use Rattle.std.proofs.Common.{rules, ◌≡◌, refl}
use Rattle.std.specs.Prelude.{Ok}
use Rattle.enc_reader.specs.declared.line_reader.Taken.TheVariants.{LineEnd, Part, Nothing}
use Rattle.enc_reader.proofs.PlacedLineLemmas.{HasTakenPart-none, HasTakenPart-then, ReadsLine-line}
use Rattle.enc_reader.proofs.PlacedLineLemmas.{ReadsLine-end, StopsLine-then}
use Rattle.enc_reader.proofs.line_reader.LineReader.append_line.Goals as goal

pub parts-init : goal.parts-init
parts-init g c = record {
  so_far = HasTakenPart-none _ _ _ _;
  policy = refl;
  kept = refl;
  going = refl;
  same_reader = refl;
}

pub parts-preserved : goal.parts-preserved
parts-preserved g c =
    let part : c.take_next.result ≡ Ok Part = search rules in
    record {
      so_far = HasTakenPart-then c.parts.invariant.so_far
          (rw c.parts.invariant.policy at c.take_next.ensures.part part);
      policy = search rules;
      kept = search rules;
      going = search rules;
      same_reader = search rules;
    }

pub returns-in-Ok-LineEnd-clause-ok : goal.returns-in-Ok-LineEnd-clause-ok
returns-in-Ok-LineEnd-clause-ok g c =
    let line : c.take_next.result ≡ Ok LineEnd = search rules in
    ReadsLine-line c.parts.invariant.so_far
    (rw c.parts.invariant.policy at c.take_next.ensures.line_end line)

pub returns-in-Ok-Nothing-clause-ok : goal.returns-in-Ok-Nothing-clause-ok
returns-in-Ok-Nothing-clause-ok g c =
    let nothing : c.take_next.result ≡ Ok Nothing = search rules in
    ReadsLine-end c.parts.invariant.so_far (c.take_next.ensures.nothing nothing)
    (c.take_next.ensures.at_end nothing) (c.take_next.ensures.same_line nothing)

pub returns-in-Err-clause-err : goal.returns-in-Err-clause-err
returns-in-Err-clause-err g c =
    StopsLine-then c.parts.invariant.so_far c.parts.invariant.kept
    (rw c.parts.invariant.policy at c.in-Err.ensures.err)
