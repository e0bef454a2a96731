use Rattle.std.proofs.Common.{rules, ◌≡◌, ◌≢◌, ◌-◌, drop, take, None, Some, refl, sym, ap, ◌∙◌, arith}
use Rattle.enc_reader.specs.declared.malformed_policy.MalformedPolicy.TheVariants.{Report}
use Rattle.enc_reader.specs.Reporting.{part_items, items_if}
use Rattle.enc_reader.proofs.TakenItemLemmas.{none_held, malformed_held}
use Rattle.enc_reader.proofs.TakenItemLemmas.{TakesItems-none}
use Rattle.enc_reader.proofs.PlacedLineLemmas.{StopsLine-memory, StopsLine-reported, TakesPart-malformed}
use Rattle.enc_reader.proofs.line_reader.LineReader.take_malformed.Goals.{then-ne+else-is_err, else-ne}
use Rattle.enc_reader.proofs.line_reader.LineReader.take_malformed.Goals as goal

pub returns-then-is_err-clause-err : goal.returns-then-is_err-clause-err
returns-then-is_err-clause-err g c =
    StopsLine-memory (TakesItems-none _ _) refl (search rules)

pub returns-then-eq-clause-err : goal.returns-then-eq-clause-err
returns-then-eq-clause-err g c =
    let lines = c.args.self.now in
    let text = drop lines.at lines.text.now in
    let is_held = ap (part_items (take (lines.filled - lines.at) text)) c.requires.held
    ∙ malformed_held text (lines.filled - lines.at) c.args.sequence
    (omega (arith, c.requires.none_before))
    ∙ ap (λ s. items_if (Some s)) (sym c.new-found.ensures.sequence) in
    let none_now = none_held text (lines.filled - lines.at) None
    (omega (arith, c.requires.none_before)) refl in
    let reports : lines.policy ≡ Report = search rules in
    let same_line : c.if-ne.line ≡ c.args.line.now = elim c.if-ne.branch [
      | then-ne+else-is_err w ↦ (
          let other : lines.policy ≢ Report = search rules in
          absurd (other reports))
      | else-ne w ↦ w.line-is
    ] in
    rw (c.after-self.ensures, same_line)
    (StopsLine-reported lines.policy _ _ _ lines.position c.new-found.result
    c.new-found.ensures.position _ _ is_held none_now c.args.line.now _)

pub returns-clause-ok : goal.returns-clause-ok
returns-clause-ok g c = elim c.if-ne.branch [
  | then-ne+else-is_err w ↦ (
      let lines = c.args.self.now in
      let text = drop lines.at lines.text.now in
      let is_held = ap (part_items (take (lines.filled - lines.at) text)) c.requires.held
      ∙ malformed_held text (lines.filled - lines.at) c.args.sequence
      (omega (arith, c.requires.none_before))
      ∙ ap (λ s. items_if (Some s)) (sym c.new-found.ensures.sequence) in
      let none_now = none_held text (lines.filled - lines.at) None
      (omega (arith, c.requires.none_before)) refl in
      rw (c.after-self.ensures, w.line-is)
      (TakesPart-malformed lines.policy _ _ _ lines.position c.new-found.result
      c.new-found.ensures.position _ _ is_held none_now (search rules) (search rules)
      (search rules)))
  | else-ne w ↦ absurd (search rules)
]
