use Rattle.enc_decoder_utf.proofs.Utf8Rule as texts
use Rattle.encoding_rs.proofs.laws.utf_8_has_texts.Goals as goal

pub returns : goal.returns
returns c = texts.utf_8_has_texts
