use Rattle.std.proofs.Common.{sym, arith}
use Rattle.enc_utf8.proofs.Utf8FormLemmas.{utf8_two, utf8_three, utf8_four}
use Rattle.enc_utf8.proofs.utf8_form.utf8_of.Goals as goal

pub returns-then-scalar-lt2048-clause-bytes : goal.returns-then-scalar-lt2048-clause-bytes
returns-then-scalar-lt2048-clause-bytes c =
    sym (utf8_two c.args.character (omega arith) (omega arith))

pub returns-then-scalar-lt65536-clause-bytes : goal.returns-then-scalar-lt65536-clause-bytes
returns-then-scalar-lt65536-clause-bytes c =
    sym (utf8_three c.args.character (omega arith) (omega arith))

pub returns-clause-bytes : goal.returns-clause-bytes
returns-clause-bytes c = sym (utf8_four c.args.character (omega arith))
