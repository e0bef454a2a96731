use Rattle.std.proofs.Common.{◌∙◌, sym, ap, arith}
use Rattle.std.proofs.lemmas.Grind.{common_steps}
use Rattle.std.specs.Prelude.{drop}
use Rattle.enc_sniff.specs.HeaderFields.{first_field as field_in}
use Rattle.enc_sniff.proofs.HeaderLemmas.{next_line, no_line}
use Rattle.enc_sniff.proofs.header.first_field.Goals as goal

pub lines-preserved : goal.lines-preserved
lines-preserved c =
    ap (field_in c.args.name.now) (c.past_byte-rest.ensures ∙ ap (drop 1) c.past.ensures.value)
    ∙ next_line c.args.name.now c.lines.rest.now (sym c.if-is_empty.ensures)
    (sym c.in-None.ensures)
    ∙ c.lines.invariant

pub returns : goal.returns
returns c =
    no_line c.args.name.now c.lines.rest.now (grind (arith, common_steps)) ∙ c.lines.invariant
