use Rattle.enc_input.proofs.Utf8MappedLemmas.{own_written}
use Rattle.enc_input.proofs.utf8_mapped.put_char.Goals as goal

pub returns-then-src-lt128 : goal.returns-then-src-lt128
returns-then-src-lt128 g c = own_written c.requires.utf8 c.put_own-len.ensures
