use Rattle.enc_decoder_utf.proofs.Utf16Prefixes.{utf_16_prefixes, utf_16_leaves}
use Rattle.enc_decoder_utf.proofs.utf_16.Utf16DecoderPrefixCodec.laws.Goals as goal

pub returns-clause-prefixes : goal.returns-clause-prefixes
returns-clause-prefixes c = utf_16_prefixes _

pub returns-clause-leaves : goal.returns-clause-leaves
returns-clause-leaves c _ = utf_16_leaves _
