use Rattle.std.proofs.Common.{IfSome, subst}
use Rattle.std.specs.Char.Escape.{encode_utf16}
use Rattle.enc_decoder.specs.declared.error_mode.ErrorMode.{ErrorMode}
use Rattle.enc_stream.specs.Lengths.{IsEnoughRoom}
use Rattle.enc_handles.proofs.LengthLemmas.{of_known_length}
use Rattle.encoding_c.proofs.lengths.encoding_c_max_utf16_buffer_length.Goals as goal

pub returns-clause-enough : goal.returns-clause-enough
returns-clause-enough c =
    λ _ known. of_known_length
    (λ room. (mode : ErrorMode) →
    IsEnoughRoom encode_utf16 mode c.args.decoder.now.value c.args.byte_length room)
    c.max_utf16_buffer_length.result c.length_or_none.result
    c.length_or_none.ensures
    (subst (λ v. IfSome c.max_utf16_buffer_length.result
    (λ room. (mode : ErrorMode) → IsEnoughRoom encode_utf16 mode v c.args.byte_length room))
    c.get-inner.ensures.value c.max_utf16_buffer_length.ensures.enough) known
