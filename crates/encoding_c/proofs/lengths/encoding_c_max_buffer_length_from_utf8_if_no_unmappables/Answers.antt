use Rattle.std.proofs.Common.{IfSome, subst}
use Rattle.std.specs.Char.{encode_utf8}
use Rattle.enc_stream.specs.Need.{IsEnoughIfMappable}
use Rattle.enc_handles.proofs.LengthLemmas.{of_known_length}
use Rattle.encoding_c.proofs.lengths.encoding_c_max_buffer_length_from_utf8_if_no_unmappables.Goals as goal

pub returns-clause-enough : goal.returns-clause-enough
returns-clause-enough c =
    λ known. of_known_length
    (IsEnoughIfMappable encode_utf8 c.args.encoder.now.value c.args.byte_length)
    c.max_buffer_length_from_utf8_if_no_unmappables.result c.length_or_none.result
    c.length_or_none.ensures
    (subst (λ v. IfSome c.max_buffer_length_from_utf8_if_no_unmappables.result
    (IsEnoughIfMappable encode_utf8 v c.args.byte_length))
    c.get.ensures.value c.max_buffer_length_from_utf8_if_no_unmappables.ensures.enough) known
