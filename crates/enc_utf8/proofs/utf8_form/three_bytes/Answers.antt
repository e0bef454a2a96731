use Rattle.std.proofs.Common.{sym, arith}
use Rattle.enc_utf8.proofs.Utf8FormLemmas.{utf8_three}
use Rattle.enc_utf8.proofs.utf8_form.three_bytes.Goals as goal

pub returns : goal.returns
returns c = sym (utf8_three c.args.character (omega arith) (omega arith))
