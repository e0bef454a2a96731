use Rattle.std.proofs.Common.{◌∙◌, ap, chars}
use Rattle.encoding_rs.proofs.CharsOfTextLemmas.{none_after}
use Rattle.encoding_rs.proofs.chars_of_text.split_at_char.Goals as goal

pub returns-clause-none_left : goal.returns-clause-none_left
returns-clause-none_left c =
    let place = c.place_after.ensures in
    none_after _ _ c.place_after.result _ c.utf8.text place.boundary c.split_at.ensures.back
    (ap chars c.split_at.ensures.back ∙ place.back)
