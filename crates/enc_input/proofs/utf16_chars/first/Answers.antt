use Rattle.std.proofs.Common.{sym, subst, ℕ}
use Rattle.enc_utf8.specs.Surrogates.{IsFirstUtf16Char}
use Rattle.enc_input.proofs.CharsLemmas.{first_pair, first_lone, some_units}
use Rattle.enc_input.proofs.utf16_chars.first.Goals as goal

pub returns-then-begins_with_pair : goal.returns-then-begins_with_pair
returns-then-begins_with_pair c =
    let is_pair = c.begins_with_pair.ensures.pair c.if-begins_with_pair.true in
    subst (λ (x : ℕ). IsFirstUtf16Char c.args.units.now x 2) (sym c.pair.ensures)
    (first_pair c.args.units.now is_pair.1)

pub returns : goal.returns
returns c =
    let is_lone = c.begins_with_pair.ensures.lone c.if-begins_with_pair.false in
    subst (λ (x : ℕ). IsFirstUtf16Char c.args.units.now x 1) (sym c.lone.ensures)
    (first_lone c.args.units.now (some_units c.args.units.now (c.if-is_empty.ensures))
    ((c.type_inv.units 0).fits) is_lone)
