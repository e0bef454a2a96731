use Rattle.std.proofs.Common.{IfSome, subst, false}
use Rattle.std.specs.Char.{encode_utf8}
use Rattle.enc_decoder.specs.declared.error_mode.ErrorMode.TheVariants.{Fatal}
use Rattle.enc_stream.specs.Lengths.{IsEnoughRoom}
use Rattle.enc_handles.proofs.LengthLemmas.{of_known_length}
use Rattle.encoding_c.proofs.lengths.encoding_c_max_utf8_buffer_length_without_replacement.Goals as goal

pub returns-clause-enough : goal.returns-clause-enough
returns-clause-enough c =
    λ _ known. of_known_length
    (IsEnoughRoom encode_utf8 Fatal c.args.decoder.now.value c.args.byte_length)
    c.max_utf8_buffer_length_without_replacement.result c.length_or_none.result
    c.length_or_none.ensures
    (subst (λ v. IfSome c.max_utf8_buffer_length_without_replacement.result
    (IsEnoughRoom encode_utf8 Fatal v c.args.byte_length))
    c.get-inner.ensures.value c.max_utf8_buffer_length_without_replacement.ensures.enough) known
