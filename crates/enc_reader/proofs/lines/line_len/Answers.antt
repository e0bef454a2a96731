use Rattle.std.proofs.Common.{◌≢◌, ◌-◌, All, subst, rules, arith, take-take}
use Rattle.std.proofs.lemmas.List.Elements.{All-take, All-more}
use Rattle.enc_reader.proofs.lines.line_len.Goals as goal

pub loop-at-preserved : goal.loop-at-preserved
loop-at-preserved c = (
  search rules,
  All-more (λ b. b ≢ 10) _ _ 0 (search rules) c.loop-at.invariant.1 (search rules),
)

pub returns-clause-before : goal.returns-clause-before
returns-clause-before c =
    let at = c.loop-at.at in
    subst (All (λ b. b ≢ 10)) (take-take (at - 1) at c.args.bytes.now (omega arith))
    (All-take (λ b. b ≢ 10) (at - 1) _ c.loop-at.invariant.1)
