use Rattle.std.proofs.Common.{◌∙◌, arith}
use Rattle.enc_names.proofs.LabelLemmas.{gets, gets_none}
use Rattle.enc_names.proofs.encoding_id.EncodingId.for_label.Goals as goal

pub returns-in_err-place : goal.returns-in_err-place
returns-in_err-place c = c.from_residual.ensures
    ∙ gets_none _ _ c.trim_ascii.ensures.value c.in_err-place.ensures.place

pub returns : goal.returns
returns c =
    let count = c.encodings.ensures.count in
    let within = c.in_ok-place.ensures.within in
    gets _ _ c.trim_ascii.ensures.value _ _ _ c.encodings.ensures.each (omega arith)
    c.in_ok-place.ensures.place
