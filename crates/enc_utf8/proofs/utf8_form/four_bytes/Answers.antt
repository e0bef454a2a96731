use Rattle.std.proofs.Common.{sym, arith}
use Rattle.enc_utf8.proofs.Utf8FormLemmas.{utf8_four}
use Rattle.enc_utf8.proofs.utf8_form.four_bytes.Goals as goal

pub returns : goal.returns
returns c = sym (utf8_four c.args.character (omega arith))
