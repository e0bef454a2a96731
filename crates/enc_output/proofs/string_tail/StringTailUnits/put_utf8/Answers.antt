use Rattle.std.proofs.Common.{◌≤◌, ◌∙◌, ap, arith, length, subst, take}
use Rattle.std.proofs.lemmas.List.{take-take}
use Rattle.enc_utf8.proofs.LengthLemmas.{lengths}
use Rattle.enc_utf8.specs.Validity.{IsWellFormedUtf8}
use Rattle.enc_output.proofs.Utf8CharsLemmas.{puts_utf8}
use Rattle.enc_output.proofs.string_tail.StringTailUnits.put_utf8.Goals as goal

pub returns : goal.returns
returns c =
    let taken = c.utf8_front-len.result in
    let valid = c.utf8_front-len.ensures in
    let front = c.split_at.ensures.front in
    let few : taken ≤ c.min.result = omega (arith, lengths, valid.within, ap length front) in
    puts_utf8 _ _ c.args.src.now taken (omega arith) (omega arith)
    (subst IsWellFormedUtf8
    (ap (take taken) front ∙ take-take taken c.min.result c.args.src.now few) valid.utf8)
    c.append.ensures
