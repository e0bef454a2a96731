use Rattle.std.proofs.lemmas.Str.{IsUtf8-had}
use Rattle.enc_reader.proofs.line_reader.LineReader.held.Goals as goal

pub from_utf8_unchecked-requires : goal.from_utf8_unchecked-requires
from_utf8_unchecked-requires g c = IsUtf8-had _ c.args.self.now.utf_8
