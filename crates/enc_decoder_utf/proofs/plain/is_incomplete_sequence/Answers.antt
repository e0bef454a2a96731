use Rattle.std.proofs.Common.{◌∙◌, sym}
use Rattle.enc_decoder_utf.proofs.Utf8Incomplete.{incomplete_by_prefixes}
use Rattle.enc_decoder_utf.proofs.plain.is_incomplete_sequence.Goals as goal

pub returns-then-bytes-gt0 : goal.returns-then-bytes-gt0
returns-then-bytes-gt0 c =
    c.first_sequence.ensures.incomplete
    ∙ sym (incomplete_by_prefixes c.args.bytes.now c.if-bytes-gt0.true)
