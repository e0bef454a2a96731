use Rattle.std.proofs.Common.{rules, ◌≡◌, ◌∙◌, None, length}
use Rattle.enc_stream.specs.OneShot.{length_to_encode}
use Rattle.enc_stream.specs.Properties.{output_encoding_of}
use Rattle.enc_stream.proofs.OneShotEncodeLemmas.{too_long_at_once}
use Rattle.enc_stream.proofs.OwnBytesLemmas.{own_bytes, own_mappable}
use Rattle.enc_stream.proofs.encoding.Encoding.encode.Goals as goal

pub returns-in_err-bytes-clause-too_long : goal.returns-in_err-bytes-clause-too_long
returns-in_err-bytes-clause-too_long c = λ too_long.
    let none : length_to_encode (output_encoding_of c.args.self) (length c.args.text.now) ≡ None =
    search rules in
    too_long_at_once c.args.self c.args.text.now none

pub returns-then-encodes_as_itself-clause-bytes : goal.returns-then-encodes_as_itself-clause-bytes
returns-then-encodes_as_itself-clause-bytes c =
    c.in_ok-bytes.ensures.bytes
    ∙ own_bytes c.args.self c.args.text.now c.utf8.text
    (c.encodes_as_itself.ensures.0 c.if-encodes_as_itself.true)

pub returns-then-encodes_as_itself-clause-flag : goal.returns-then-encodes_as_itself-clause-flag
returns-then-encodes_as_itself-clause-flag c =
    own_mappable c.args.self c.args.text.now c.utf8.text
    (c.encodes_as_itself.ensures.0 c.if-encodes_as_itself.true)
