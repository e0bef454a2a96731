use Rattle.std.proofs.Common.{◌∷◌, [], arith, get_or, sym, take}
use Rattle.std.proofs.Math.Utf8.{low_scalar}
use Rattle.std.proofs.lemmas.Str.{encode_ascii}
use Rattle.enc_decoder_utf.proofs.Utf8Pieces.{utf8_prefix_piece}
use Rattle.enc_decoder_utf.proofs.utf_8.Utf8DecoderPrefixCodec.latin1_front.Goals as goal

pub returns-clause-latin1 : goal.returns-clause-latin1
returns-clause-latin1 c k d inside =
    let byte = get_or (take c.ascii_valid_up_to.result c.args.src.now) k d in
    let low = c.ascii_valid_up_to.ensures.has k d inside in
    utf8_prefix_piece (byte ∷ []) byte
    (low_scalar byte (omega (arith, low)), sym (encode_ascii byte low))
