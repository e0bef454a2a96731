use Rattle.std.proofs.Common.{◌∷◌, [], ◌∙◌, ap, sym, arith}
use Rattle.std.proofs.str.Valid.{of_one, of_two}
use Rattle.enc_output.proofs.Utf8TextLemmas.{three_bytes_unit}
use Rattle.enc_output.proofs.utf8_units.narrow_char.Goals as goal

pub returns-then-first-lt128-clause-utf8 : goal.returns-then-first-lt128-clause-utf8
returns-then-first-lt128-clause-utf8 c = of_one c.args.src.now 0 (omega arith) (omega arith)

pub returns-then-first-lt224-clause-utf8 : goal.returns-then-first-lt224-clause-utf8
returns-then-first-lt224-clause-utf8 c =
    of_two c.args.src.now 0 (omega arith) (omega arith, omega arith) (omega arith, omega arith)

pub returns-clause-unit : goal.returns-clause-unit
returns-clause-unit c =
    let read = c.char_len.ensures in
    three_bytes_unit c.args.src.now (omega arith)
    (rw c.if-char_len-ne3.false at read.utf8) (omega arith) (omega arith, omega arith)
    ∙ ap (λ u. u ∷ []) (sym c.unit_of.ensures)
