use Rattle.std.proofs.Common.{sym, ap, ◌∙◌, refl}
use Rattle.std.specs.Char.{encode_utf8}
use Rattle.enc_utf8.specs.Text.{units_of_text}
use Rattle.enc_reader.proofs.PolicyLemmas.{units-ascii}
use Rattle.enc_reader.proofs.malformed_policy.replacement.Goals as goal

pub returns-in-Replace : goal.returns-in-Replace
unfolding encode_utf8
returns-in-Replace c = rw c.in-Replace.is refl

pub returns-in-Escape : goal.returns-in-Escape
returns-in-Escape c =
    rw c.in-Escape.is
    (sym (ap (units_of_text encode_utf8) (sym c.escape.ensures.text)
    ∙ units-ascii c.escape.result.now c.escape.ensures.ascii))
