use Rattle.std.proofs.Common.{rules}
use Rattle.std.specs.Char.Escape.{encode_utf16}
use Rattle.enc_stream.proofs.NeedLemmas.{enough_if_mappable}
use Rattle.enc_stream.proofs.encoder.Encoder.max_buffer_length_from_utf16_if_no_unmappables.Goals as goal

pub returns-clause-enough : goal.returns-clause-enough
returns-clause-enough c =
    let answer = c.max_buffer_length_from_utf16_without_replacement in
    enough_if_mappable encode_utf16 c.args.self.now c.args.u16_length answer.result
    answer.ensures.enough
    c.checked_add.result (search rules)
