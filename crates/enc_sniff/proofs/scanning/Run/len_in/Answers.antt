use Rattle.std.proofs.Common.{sym, arith}
use Rattle.std.proofs.lemmas.Grind.{common_steps}
use Rattle.std.proofs.lemmas.List.Sums.{prefix_len_is}
use Rattle.enc_sniff.specs.Runs.{is_in}
use Rattle.enc_sniff.proofs.scanning.Run.len_in.Goals as goal

pub returns-then-not-has-clause-count : goal.returns-then-not-has-clause-count
returns-then-not-has-clause-count c =
    sym (prefix_len_is (is_in c.args.self) c.args.bytes.now c.loop-offset.offset 0 (omega arith)
    c.loop-offset.invariant (λ _. grind (arith, common_steps)))

pub returns-clause-count : goal.returns-clause-count
returns-clause-count c =
    sym (prefix_len_is (is_in c.args.self) c.args.bytes.now _ 0 (omega arith)
    (λ k h. c.loop-offset.invariant k (omega arith)) (λ h. absurd (omega arith)))
