use Rattle.enc_utf8.specs.Validity.{IsWellFormedUtf8}
use Rattle.enc_stream.proofs.OwnTextLemmas.{prefix_decides}
use Rattle.enc_stream.proofs.own_text.are_utf8.Goals as goal

pub returns : goal.returns
returns c =
    prefix_decides IsWellFormedUtf8 c.args.bytes.now c.utf8_valid_up_to.result
    (IsWellFormedUtf8 c.args.bytes.now) c.utf8_valid_up_to.ensures (λ utf8. utf8) (λ utf8. utf8)
