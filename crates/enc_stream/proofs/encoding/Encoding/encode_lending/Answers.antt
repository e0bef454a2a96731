use Rattle.std.proofs.Common.{◌∙◌}
use Rattle.enc_stream.proofs.OwnBytesLemmas.{own_bytes, own_mappable}
use Rattle.enc_stream.proofs.encoding.Encoding.encode_lending.Goals as goal

pub returns-then-encodes_as_itself-clause-bytes : goal.returns-then-encodes_as_itself-clause-bytes
returns-then-encodes_as_itself-clause-bytes c =
    c.as_bytes.ensures.value
    ∙ own_bytes c.args.self c.args.text.now c.utf8.text
    (c.encodes_as_itself.ensures.0 c.if-encodes_as_itself.true)

pub returns-then-encodes_as_itself-clause-flag : goal.returns-then-encodes_as_itself-clause-flag
returns-then-encodes_as_itself-clause-flag c =
    own_mappable c.args.self c.args.text.now c.utf8.text
    (c.encodes_as_itself.ensures.0 c.if-encodes_as_itself.true)
