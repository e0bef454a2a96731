use Rattle.std.proofs.Common.{sym, arith}
use Rattle.enc_utf8.proofs.Utf8FormLemmas.{utf8_two}
use Rattle.enc_utf8.proofs.utf8_form.two_bytes.Goals as goal

pub returns : goal.returns
returns c = sym (utf8_two c.args.character (omega arith) (omega arith))
