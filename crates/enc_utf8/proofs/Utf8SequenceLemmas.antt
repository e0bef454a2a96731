-- What the tests of table 3-7 say.
use Rattle.std.proofs.Common.{◌≡◌, ℕ, ◌<◌, ◌≤◌, true, arith}
use Rattle.std.proofs.lemmas.Bool.Decides.{nat_tests}
use Rattle.enc_utf8.specs.Utf8Sequences.{sequence_len, is_second_byte, is_continuation}

-- the length of a sequence, by its first byte
pub record HasLenByRange (b : ℕ) : Type 0 where
  pub one : b < 0x80 → sequence_len b ≡ 1
  pub none : 0x80 ≤ b → b < 0xC2 → sequence_len b ≡ 0
  pub two : 0xC2 ≤ b → b < 0xE0 → sequence_len b ≡ 2
  pub three : 0xE0 ≤ b → b < 0xF0 → sequence_len b ≡ 3
  pub four : 0xF0 ≤ b → b < 0xF5 → sequence_len b ≡ 4
  pub beyond : 0xF5 ≤ b → sequence_len b ≡ 0

pub len_by_range : (b : ℕ) → HasLenByRange b
unfolding sequence_len
len_by_range b = record {
  one = λ below. grind (arith, nat_tests);
  none = λ from below. grind (arith, nat_tests);
  two = λ from below. grind (arith, nat_tests);
  three = λ from below. grind (arith, nat_tests);
  four = λ from below. grind (arith, nat_tests);
  beyond = λ from. grind (arith, nat_tests);
}

-- and the first byte, by the length

pub one_range : (b : ℕ) → sequence_len b ≡ 1 → b < 0x80
unfolding sequence_len
one_range b one_byte = grind (arith, nat_tests)

pub two_range : (b : ℕ) → sequence_len b ≡ 2 → (0xC2 ≤ b) × (b < 0xE0)
unfolding sequence_len
two_range b two_bytes = (grind (arith, nat_tests), grind (arith, nat_tests))

pub three_range : (b : ℕ) → sequence_len b ≡ 3 → (0xE0 ≤ b) × (b < 0xF0)
unfolding sequence_len
three_range b three_bytes = (grind (arith, nat_tests), grind (arith, nat_tests))

pub four_range : (b : ℕ) → sequence_len b ≡ 4 → (0xF0 ≤ b) × (b < 0xF5)
unfolding sequence_len
four_range b four_bytes = (grind (arith, nat_tests), grind (arith, nat_tests))

pub from_three : (b : ℕ) → 3 ≤ sequence_len b → 0xE0 ≤ b
unfolding sequence_len
from_three b more = grind (arith, nat_tests)

pub at_most_four : (b : ℕ) → sequence_len b ≤ 4
unfolding sequence_len
at_most_four b = grind (arith, nat_tests)

pub continuation_range : (c : ℕ) → is_continuation c ≡ true → (0x80 ≤ c) × (c ≤ 0xBF)
unfolding is_continuation
continuation_range c continues = (grind (arith, nat_tests), grind (arith, nat_tests))

pub second_range : (a b : ℕ) → is_second_byte a b ≡ true → (0x80 ≤ b) × (b ≤ 0xBF)
    × (a ≡ 0xE0 → 0xA0 ≤ b) × (a ≡ 0xED → b ≤ 0x9F) × (a ≡ 0xF0 → 0x90 ≤ b) × (a ≡ 0xF4 → b ≤ 0x8F)
unfolding is_second_byte
second_range a b follows = (
  grind (arith, nat_tests),
  grind (arith, nat_tests),
  grind (arith, nat_tests),
  grind (arith, nat_tests),
  grind (arith, nat_tests),
  grind (arith, nat_tests),
)

-- and the tests, by the ranges

pub second_at : (a b : ℕ) → (0x80 ≤ b) × (b < 0xC0) → (a ≡ 0xE0 → 0xA0 ≤ b) → (a ≡ 0xED → b < 0xA0)
    → (a ≡ 0xF0 → 0x90 ≤ b) → (a ≡ 0xF4 → b < 0x90) → is_second_byte a b ≡ true
unfolding is_second_byte
second_at a b within after_e0 after_ed after_f0 after_f4 = grind (arith, nat_tests)

pub continues : (b : ℕ) → (0x80 ≤ b) × (b < 0xC0) → is_continuation b ≡ true
unfolding is_continuation
continues b within = grind (arith, nat_tests)
