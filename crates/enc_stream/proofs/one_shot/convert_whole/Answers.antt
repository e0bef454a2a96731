use Rattle.std.proofs.Common.{◌∙◌, ap, sym}
use Rattle.std.specs.Char.{encode_utf8}
use Rattle.enc_utf8.specs.Text.{units_of_text}
use Rattle.enc_decoder.specs.Sequence.{sequence_text, any_malformed}
use Rattle.enc_stream.proofs.OneShotDecodeLemmas.{nothing, none_whole}
use Rattle.enc_stream.proofs.one_shot.convert_whole.Goals as goal

pub returns-then-is_empty-clause-text : goal.returns-then-is_empty-clause-text
returns-then-is_empty-clause-text c =
    let none = nothing c.args.bytes.now (c.if-is_empty.ensures) in
    c.empty_text.ensures.bytes ∙ ap (λ ss. units_of_text encode_utf8 (sequence_text ss))
    (sym (none_whole c.args.handling c.args.encoding c.args.bytes.now none))

pub returns-then-is_empty-clause-flag : goal.returns-then-is_empty-clause-flag
returns-then-is_empty-clause-flag c =
    let none = nothing c.args.bytes.now (c.if-is_empty.ensures) in
    ap any_malformed (sym (none_whole c.args.handling c.args.encoding c.args.bytes.now none))
