-- An error has the longest well-formed prefix, and more bytes follow it.
use Rattle.std.proofs.Common.{ℕ, sym, subst, arith}
use Rattle.enc_utf8.specs.Validity.{IsLongestPrefix, IsWellFormedUtf8}
use Rattle.enc_utf8.proofs.validity.chars_valid_up_to.Goals as goal

pub returns-in-Err : goal.returns-in-Err
returns-in-Err c =
    let found = c.in-Err.ensures.cases.1 in
    let IsLongest : ℕ → Type 0 = λ k. IsLongestPrefix IsWellFormedUtf8 c.args.bytes.now k in
    subst IsLongest (sym c.valid_up_to.ensures) (record {
      within = let short = found.short in omega arith;
      has = found.front;
      longest = λ m more _. found.longest m more;
    })
