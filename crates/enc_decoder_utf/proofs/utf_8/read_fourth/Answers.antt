use Rattle.enc_decoder_utf.proofs.Utf8Prefixes.{wants_four}
use Rattle.enc_decoder_utf.proofs.utf_8.read_fourth.Goals as goal

pub four_byte_char-requires-clause-len : goal.four_byte_char-requires-clause-len
four_byte_char-requires-clause-len c =
    wants_four c.args.first c.args.second c.args.third c.requires.first c.requires.second
    c.requires.third
