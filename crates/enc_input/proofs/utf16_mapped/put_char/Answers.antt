use Rattle.enc_input.proofs.Utf16MappedLemmas.{own_written}
use Rattle.enc_input.proofs.utf16_mapped.put_char.Goals as goal

pub returns-then-src-lt128 : goal.returns-then-src-lt128
returns-then-src-lt128 g c = own_written c.put_own-len.ensures
