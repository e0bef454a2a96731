-- The places of sixteen bytes, as numbers of lanes.
use Rattle.std.proofs.Common.{◌≡◌, ℕ, ◌+◌, ◌-◌, ◌*◌, ◌%◌, ◌<◌, ◌≤◌, ◌==◌, Bool, true, false, cond}
use Rattle.std.proofs.Common.{leb, ap, arith, inl, inr}
use Rattle.std.proofs.lemmas.Bool.{cases_lt}
use Rattle.std.proofs.lemmas.Bool.Decides.{nat_tests}
use Rattle.std.proofs.Math.Nat.{mul-le-mul_right}
use Rattle.enc_output.specs.Places.{number_in}
use Rattle.enc_utf8.proofs.ByteLanes.{add16, times16}

-- the number of a byte in a range

abbrev offset : ℕ → ℕ → ℕ
offset first b = (b + (256 - first)) % 256

pub number_is : (first last number b other : ℕ) → first ≤ last → last < 256
    → number + (last - first) < 256 → b < 256
    → cond (leb (offset first b) (last - first)) ((offset first b + number) % 256) other
    ≡ number_in first last number b other
number_is first last number b other range last_fits numbers_fit fits = elim (cases_lt b first) [
  | inl low ↦
      let before : offset first b ≡ b + 256 - first = omega arith in
      grind (arith, nat_tests, before)
  | inr high ↦
      let within : offset first b ≡ b - first = omega arith in
      grind (arith, nat_tests, within)
]

-- the place of a row and a column
pub place_is : (row column row_len : ℕ) → row < 256 → column < 256 → row_len < 255
    → add16 (times16 row row_len) (add16 column 256) ≡ 256 + row * row_len + column
place_is row column row_len row_fits column_fits few =
    let last_row : row ≤ 255 = omega arith in
    let most : row * row_len ≤ 255 * row_len = mul-le-mul_right row_len last_row in
    omega (arith, most)

pub is_set : (t : Bool) (bit : ℕ) → bit ≡ cond t 1 0 → (bit == 1) ≡ t
is_set true bit is = ap (λ b. b == 1) is
is_set false bit is = ap (λ b. b == 1) is
