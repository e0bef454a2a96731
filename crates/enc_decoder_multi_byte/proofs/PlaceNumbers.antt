-- The numbers of lead bytes and of trail bytes that encodings share.
use Rattle.std.proofs.Common.{◌≡◌, ℕ, ◌+◌, ◌-◌, ◌<◌, true, cond, ◌&&◌, nat_le, nat_lt, ap, arith}
use Rattle.std.proofs.lemmas.Bool.Decides.{nat_tests}
use Rattle.enc_output.specs.Places.{number_in}

-- a byte of a range has its number in the range
pub range_number : (first last a other : ℕ)
    → number_in first last 0 a other ≡ cond (nat_le first a && nat_le a last) (a - first) other
range_number first last a other =
    let same : a - first + 0 ≡ a - first = omega arith in
    ap (λ n. cond (nat_le first a && nat_le a last) n other) same

pub number_below : (first last bound a : ℕ) → last < first + bound
    → (nat_le first a && nat_le a last) ≡ true → a - first < bound
number_below first last bound a few in_range = grind (arith, nat_tests)

-- the number of a trail, of gb18030 and of Shift_JIS
abbrev pub trail_number : ℕ → ℕ
trail_number b = b - cond (nat_lt b 0x7F) 0x40 0x41
