-- How a character is written in UTF-8, by the number of its bytes (Unicode Standard 3.9, table
-- 3-6).
use Rattle.std.proofs.Common.{◌≡◌, ℕ, ◌+◌, ◌/◌, ◌%◌, ◌<◌, ◌≤◌, [], ◌∷◌, refl, inl, inr, arith}
use Rattle.std.proofs.lemmas.Bool.{cases_lt, lt-ltb, le-ltb}
use Rattle.std.proofs.lemmas.Bool.Decides.{nat_tests}
use Rattle.std.proofs.lemmas.Str.{encode_ascii}
use Rattle.std.specs.Char.{IsScalar, encode_utf8}

pub utf8_two : (c : ℕ) → 128 ≤ c → c < 2048 → encode_utf8 c ≡ (192 + c / 64) ∷ (128 + c % 64) ∷ []
unfolding encode_utf8
utf8_two c from below = rw (le-ltb c 128 from, lt-ltb c 2048 below) refl

pub utf8_three : (c : ℕ) → 2048 ≤ c → c < 65536
    → encode_utf8 c ≡ (224 + c / 4096) ∷ (128 + c / 64 % 64) ∷ (128 + c % 64) ∷ []
unfolding encode_utf8
utf8_three c from below =
    rw (le-ltb c 128 (omega arith), le-ltb c 2048 from, lt-ltb c 65536 below) refl

pub utf8_four : (c : ℕ) → 65536 ≤ c → encode_utf8 c
    ≡ (240 + c / 262144) ∷ (128 + c / 4096 % 64) ∷ (128 + c / 64 % 64) ∷ (128 + c % 64) ∷ []
unfolding encode_utf8
utf8_four c from =
    rw (le-ltb c 128 (omega arith), le-ltb c 2048 (omega arith), le-ltb c 65536 from) refl

pub data Form (c : ℕ) : Type 0 where
  One : c < 0x80 → encode_utf8 c ≡ c ∷ [] → Form c
  Two : 0x80 ≤ c → c < 0x800 → encode_utf8 c ≡ (192 + c / 64) ∷ (128 + c % 64) ∷ [] → Form c
  Three : 0x800 ≤ c → c < 0x1_0000
      → encode_utf8 c ≡ (224 + c / 4096) ∷ (128 + c / 64 % 64) ∷ (128 + c % 64) ∷ [] → Form c
  Four : 0x1_0000 ≤ c → encode_utf8 c
      ≡ (240 + c / 262144) ∷ (128 + c / 4096 % 64) ∷ (128 + c / 64 % 64) ∷ (128 + c % 64) ∷ []
      → Form c

pub form_of : (c : ℕ) → Form c
form_of c = elim (cases_lt c 0x80) [
  | inl one ↦ One one (encode_ascii c one)
  | inr more ↦ elim (cases_lt c 0x800) [
    | inl two ↦ Two more two (utf8_two c more two)
    | inr most ↦ elim (cases_lt c 0x1_0000) [
      | inl three ↦ Three most three (utf8_three c most three)
      | inr four ↦ Four four (utf8_four c four)
    ]
  ]
]

pub scalar_below : (c : ℕ) → IsScalar c → c < 0x11_0000
scalar_below c scalar = grind (arith, nat_tests)
