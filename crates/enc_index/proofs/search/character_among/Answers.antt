use Rattle.std.proofs.Common.{◌∙◌, ap, sym}
use Rattle.enc_index.proofs.RunLemmas.{character_of_run, index_at-run_with_pointer}
use Rattle.enc_index.proofs.search.character_among.Goals as goal

pub returns-in-Some : goal.returns-in-Some
returns-in-Some c =
    c.character_after.ensures
    ∙ ap (character_of_run c.args.planes c.args.pointer) c.in-Some.ensures.first
    ∙ sym (index_at-run_with_pointer c.args.planes c.args.runs.now c.args.pointer)

pub returns-in-None : goal.returns-in-None
returns-in-None c =
    ap (character_of_run c.args.planes c.args.pointer) c.in-None.ensures.first
    ∙ sym (index_at-run_with_pointer c.args.planes c.args.runs.now c.args.pointer)
