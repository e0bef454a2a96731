use Rattle.std.proofs.Common.{◌≡◌, ◌∙◌, true, false, refl, sym, rules}
use Rattle.std.proofs.lemmas.Bool.{false≢true}
use Rattle.recode_engine.specs.declared.engine.RecodeFault.TheVariants.{Read, Write}
use Rattle.recode_engine.proofs.RunOutcomeLemmas.{IsRecodeRun-not_begun}
use Rattle.recode_engine.proofs.engine.run_part.Goals as goal

pub returns-then-failed : goal.returns-then-failed
returns-then-failed g c =
    let failed : g.R.Source.has_failed c.args.reader.now ≡ true = search rules in
    IsRecodeRun-not_begun Read (λ _. failed) (λ is. cc) (λ _. refl)
    (λ going _. absurd (false≢true (sym going ∙ failed)))

pub returns-then-failed-2 : goal.returns-then-failed-2
returns-then-failed-2 g c =
    let going : g.R.Source.has_failed c.args.reader.now ≡ false = search rules in
    IsRecodeRun-not_begun Write (λ is. cc) (λ _. search rules)
    (λ failed. absurd (false≢true (sym going ∙ failed))) (λ _ _. refl)
