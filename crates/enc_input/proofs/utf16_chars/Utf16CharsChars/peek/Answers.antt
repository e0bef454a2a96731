use Rattle.enc_input.proofs.CharsLemmas.{peeks}
use Rattle.enc_input.proofs.utf16_chars.Utf16CharsChars.peek.Goals as goal

pub returns-clause-first : goal.returns-clause-first
returns-clause-first c = peeks _ _ c.first.ensures
