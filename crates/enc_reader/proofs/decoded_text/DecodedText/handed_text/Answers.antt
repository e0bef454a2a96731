use Rattle.std.proofs.lemmas.Str.{IsUtf8-had}
use Rattle.enc_reader.proofs.decoded_text.DecodedText.handed_text.Goals as goal

pub text-requires-clause-utf_8 : goal.text-requires-clause-utf_8
text-requires-clause-utf_8 g c = IsUtf8-had _ c.args.self.now.utf_8
