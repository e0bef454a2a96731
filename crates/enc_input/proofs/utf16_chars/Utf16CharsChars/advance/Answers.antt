use Rattle.enc_utf8.proofs.UnitsLemmas.{lossy_nil}
use Rattle.enc_input.proofs.utf16_chars.Utf16CharsChars.advance.Goals as goal

pub returns-in_default : goal.returns-in_default
returns-in_default c = rw (c.in_default.ensures, lossy_nil)
