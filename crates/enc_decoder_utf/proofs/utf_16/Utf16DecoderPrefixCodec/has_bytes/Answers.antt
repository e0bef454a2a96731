use Rattle.enc_decoder_utf.proofs.Utf16Rule.{utf_16_has_no_bytes}
use Rattle.enc_decoder_utf.proofs.utf_16.Utf16DecoderPrefixCodec.has_bytes.Goals as goal

pub returns-clause-none : goal.returns-clause-none
returns-clause-none c _ = utf_16_has_no_bytes _
