use Rattle.std.proofs.Common.{rules}
use Rattle.std.specs.Char.{encode_utf8}
use Rattle.enc_stream.proofs.NeedLemmas.{enough_if_mappable}
use Rattle.enc_stream.proofs.encoder.Encoder.max_buffer_length_from_utf8_if_no_unmappables.Goals as goal

pub returns-clause-enough : goal.returns-clause-enough
returns-clause-enough c =
    let answer = c.max_buffer_length_from_utf8_without_replacement in
    enough_if_mappable encode_utf8 c.args.self.now c.args.byte_length answer.result
    answer.ensures.enough
    c.checked_add.result (search rules)
