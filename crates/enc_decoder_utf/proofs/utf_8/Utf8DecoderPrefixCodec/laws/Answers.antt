use Rattle.enc_decoder_utf.proofs.Utf8Prefixes.{utf_8_prefixes, utf_8_leaves}
use Rattle.enc_decoder_utf.proofs.utf_8.Utf8DecoderPrefixCodec.laws.Goals as goal

pub returns-clause-prefixes : goal.returns-clause-prefixes
returns-clause-prefixes c = utf_8_prefixes

pub returns-clause-leaves : goal.returns-clause-leaves
returns-clause-leaves c _ = utf_8_leaves
