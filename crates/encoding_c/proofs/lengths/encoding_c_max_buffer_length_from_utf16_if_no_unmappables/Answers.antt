use Rattle.std.proofs.Common.{IfSome, subst}
use Rattle.std.specs.Char.Escape.{encode_utf16}
use Rattle.enc_stream.specs.Need.{IsEnoughIfMappable}
use Rattle.enc_handles.proofs.LengthLemmas.{of_known_length}
use Rattle.encoding_c.proofs.lengths.encoding_c_max_buffer_length_from_utf16_if_no_unmappables.Goals as goal

pub returns-clause-enough : goal.returns-clause-enough
returns-clause-enough c =
    λ known. of_known_length
    (IsEnoughIfMappable encode_utf16 c.args.encoder.now.value c.args.u16_length)
    c.max_buffer_length_from_utf16_if_no_unmappables.result c.length_or_none.result
    c.length_or_none.ensures
    (subst (λ v. IfSome c.max_buffer_length_from_utf16_if_no_unmappables.result
    (IsEnoughIfMappable encode_utf16 v c.args.u16_length))
    c.get.ensures.value c.max_buffer_length_from_utf16_if_no_unmappables.ensures.enough) known
